-- A text without its lines that begin with `%`.
use Rattle.std.specs.Prelude.{ℕ, nat_eq, List, [], ◌∷◌, ◌++◌, if◌then◌else◌}
use Rattle.term_text.specs.Fronts.{begins_with}

-- where a byte stands: at the start of a line, further on in a line that counts, or in one that is passed over
pub data Spot : Type 0 where
  start : Spot
  kept : Spot
  passed : Spot

-- where the next byte stands
abbrev pub next_spot : Spot → ℕ → Spot
next_spot start byte = if nat_eq byte 37 then passed else (if nat_eq byte 10 then start else kept)
next_spot kept byte = if nat_eq byte 10 then start else kept
next_spot passed byte = if nat_eq byte 10 then start else passed

-- the byte, where it stands in a line that counts
abbrev pub kept_byte : Spot → ℕ → List ℕ
kept_byte start byte = if nat_eq byte 37 then [] else byte ∷ []
kept_byte kept byte = byte ∷ []
kept_byte passed byte = []

abbrev pub bare_from : Spot → List ℕ → List ℕ
bare_from spot [] = []
bare_from spot (byte ∷ bytes) = kept_byte spot byte ++ bare_from (next_spot spot byte) bytes

-- the text without its lines that begin with `%`
abbrev pub bare : List ℕ → List ℕ
bare bytes = bare_from start bytes

-- of lines those that do not begin with `%`
abbrev pub counted : List (List ℕ) → List (List ℕ)
counted [] = []
counted (line ∷ lines) = if begins_with (37 ∷ []) line then counted lines else line ∷ counted lines
