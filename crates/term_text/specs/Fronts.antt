-- How a text begins.
use Rattle.std.specs.Prelude.{ℕ, Bool, true, false, ◌&&◌, nat_eq, List, [], ◌∷◌}

-- the text begins with that word
abbrev pub begins_with : List ℕ → List ℕ → Bool
begins_with [] line = true
begins_with (byte ∷ word) [] = false
begins_with (byte ∷ word) (first ∷ line) = nat_eq byte first && begins_with word line
