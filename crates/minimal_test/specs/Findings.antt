-- What a rule comes to under the sides so far: unit propagation, for rules with premises and conclusions.
use Rattle.std.specs.Prelude.{◌≡◌, ℕ, Bool, true, false, ◌&&◌, List, All, IsTrue}
use Rattle.std.specs.List.{list_any}
use Rattle.minimal_test.specs.declared.rule.Rule.{Rule}
use Rattle.minimal_test.specs.declared.side.Side.{Side}
use Rattle.minimal_test.specs.declared.side.Side.TheVariants.{Open}
use Rattle.minimal_test.specs.declared.rest.Rest.{Rest}
use Rattle.minimal_test.specs.declared.rest.Rest.TheVariants.{Done, Only, Free}
use Rattle.minimal_test.specs.declared.finding.Finding.{Finding}
use Rattle.minimal_test.specs.declared.finding.Finding.TheVariants.{Broken, Forced, Quiet}
use Rattle.minimal_test.specs.Choices.{side_at}
use Rattle.minimal_test.specs.Rests.{are_on, are_but}
use Rattle.minimal_test.specs.Uses.{uses_place}

-- all premises are in, and all conclusions out
abbrev pub is_conflict : List Side → Rule → Bool
is_conflict sides rule = are_on sides true rule.premises && are_on sides false rule.conclusions

-- all premises are in and all conclusions but this one out, so that it is in; or all premises but this one are in and all conclusions out, so that it is out
abbrev pub forces : List Side → Rule → ℕ → Bool → Bool
forces sides rule place true = are_on sides true rule.premises && are_but sides false place rule.conclusions
forces sides rule place false = are_but sides true place rule.premises && are_on sides false rule.conclusions

-- it is no conflict, and forces no open place
pub record IsQuiet (sides : List Side) (rule : Rule) : Type 0 where
  pub kept : is_conflict sides rule ≡ false
  pub still : (place : ℕ) (is_in : Bool) → side_at sides place ≡ Open → forces sides rule place is_in ≡ false

-- from what is left of the premises, which are wanted in, and of the conclusions, which are wanted out
abbrev pub finding_of : Rest → Rest → Finding
finding_of Done Done = Broken
finding_of Done (Only place) = Forced place true
finding_of Done Free = Quiet
finding_of (Only place) Done = Forced place false
finding_of (Only place) (Only other) = Quiet
finding_of (Only place) Free = Quiet
finding_of Free rest = Quiet

abbrev pub IsFinding : List Side → Rule → Finding → Type 0
IsFinding sides rule Broken = IsTrue (is_conflict sides rule)
IsFinding sides rule (Forced place is_in) = (side_at sides place ≡ Open) × IsTrue (forces sides rule place is_in) × IsTrue (uses_place rule place)
IsFinding sides rule Quiet = IsQuiet sides rule

-- some rule is a conflict
abbrev pub has_conflict : List Side → List Rule → Bool
has_conflict sides rules = list_any (is_conflict sides) rules

-- no rule is, and none forces an open place: the sides are closed under the rules
abbrev pub AreClosed : List Side → List Rule → Type 0
AreClosed sides rules = All (IsQuiet sides) rules

-- no place is open
abbrev pub AreFull : List Side → Type 0
AreFull sides = (place : ℕ) → side_at sides place ≡ Open → ⊥
