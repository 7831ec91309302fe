-- What moving a position by the table means.
use Rattle.std.specs.Prelude.{◌≡◌, Bool, true, false, Option, Some, None}
use Rattle.cnf_grammar.specs.declared.position.Position.{Position}

-- moved to the position where there is one, and unmoved where there is none
abbrev pub Moves : Option Position → Bool → Position → Position → Type 0
Moves None moved old new = (moved ≡ false) × (new ≡ old)
Moves (Some p) moved old new = (moved ≡ true) × (new ≡ p)
