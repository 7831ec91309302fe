-- Lines and columns.
use Rattle.std.specs.Prelude.{◌≡◌, ◌≤◌, length, ℕ, ◌+◌, List, [], ◌∷◌, take, ◌==◌, if◌then◌else◌}
use Rattle.tptp_lexer.specs.declared.spot.Spot.{Spot}

-- where a text begins
abbrev pub first_spot : Spot
first_spot = record { offset = 0; line = 1; column = 1 }

-- the place behind a byte: a line feed ends a line
abbrev pub past : Spot → ℕ → Spot
past spot b = record {
  offset = spot.offset + 1;
  line = if b == 10 then spot.line + 1 else spot.line;
  column = if b == 10 then 1 else spot.column + 1;
}

-- the place behind these bytes
unfoldable pub passed : Spot → List ℕ → Spot
passed spot [] = spot
passed spot (b ∷ bs) = passed (past spot b) bs

-- the place of the byte with this offset
abbrev pub spot_at : List ℕ → ℕ → Spot
spot_at bytes offset = passed first_spot (take offset bytes)

-- the place is one of this text: within it, with its line and column
pub record IsPlace (bytes : List ℕ) (spot : Spot) : Type 0 where
  pub within : spot.offset ≤ length bytes
  pub counted : spot ≡ spot_at bytes spot.offset
