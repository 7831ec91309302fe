-- How far comments go.
use Rattle.std.specs.Prelude.{ℕ, suc, List, [], ◌∷◌, Option, Some, None, ◌==◌, ◌&&◌, if◌then◌else◌}
use Rattle.std.specs.Option.{option_map}
use Rattle.std.specs.List.{prefix_len}
use Rattle.ascii_text.specs.Bytes.{is_in_line, begins}

-- how many bytes come before the line feed, or before the end
abbrev pub line_len : List ℕ → ℕ
line_len bytes = prefix_len is_in_line bytes

-- how many bytes come before the first `*/`
unfoldable pub before_close : List ℕ → Option ℕ
before_close [] = None
before_close (b ∷ bs) = if b == 42 && begins (λ c. c == 47) bs then Some 0 else option_map suc (before_close bs)
