-- Choices of places, in propositional logic: each place is in or out, and rules are kept or broken.
use Rattle.std.specs.Prelude.{◌≡◌, ℕ, Bool, true, false, not, ◌&&◌, List, slice_get, unwrap_or}
use Rattle.std.specs.List.{list_any, list_all}
use Rattle.minimal_test.specs.declared.rule.Rule.{Rule}
use Rattle.minimal_test.specs.declared.side.Side.{Side}
use Rattle.minimal_test.specs.declared.side.Side.TheVariants.{Open, In, Out}

-- by the choice all premises are in, and no conclusion is
abbrev pub is_broken : (ℕ → Bool) → Rule → Bool
is_broken chosen rule = list_all chosen rule.premises && not (list_any chosen rule.conclusions)

-- the choice breaks none of the rules
abbrev pub keeps : (ℕ → Bool) → List Rule → Bool
keeps chosen rules = list_all (λ rule. not (is_broken chosen rule)) rules

-- each choice keeps the ones where it keeps the others
abbrev pub AskTheSame : List Rule → List Rule → Type 0
AskTheSame these those = (chosen : ℕ → Bool) → keeps chosen these ≡ keeps chosen those

-- the side of a place; a place that there is not is out
abbrev pub side_at : List Side → ℕ → Side
side_at sides place = unwrap_or (slice_get sides place) Out

abbrev pub side_of : Bool → Side
side_of true = In
side_of false = Out

-- the place is decided, and on that side
abbrev pub is_on : Bool → Side → Bool
is_on true Open = false
is_on true In = true
is_on true Out = false
is_on false Open = false
is_on false In = false
is_on false Out = true

-- the choice that puts in just what is in so far
abbrev pub chosen_of : List Side → ℕ → Bool
chosen_of sides place = is_on true (side_at sides place)
