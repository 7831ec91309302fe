-- How far the search has handed its steps on to the rules that use their places.
use Rattle.std.specs.Prelude.{◌≡◌, ℕ, ◌+◌, ◌<◌, ◌≤◌, ◌⊎◌, Bool, Option, None, Some, true, false, List, All, length, drop, get_or, IsTrue}
use Rattle.std.specs.List.{list_any}
use Rattle.minimal_test.specs.declared.rule.Rule.{Rule}
use Rattle.minimal_test.specs.declared.side.Side.{Side}
use Rattle.minimal_test.specs.declared.path.Step.{Step}
use Rattle.minimal_test.specs.declared.path.Path.{Path}
use Rattle.minimal_test.specs.Uses.{uses_place, is_among}
use Rattle.minimal_test.specs.Findings.{IsQuiet, has_conflict}
use Rattle.minimal_test.specs.Paths.{IsDead, Leads}

-- the rule uses the place of one of the steps
abbrev pub uses_one : Rule → List Step → Bool
uses_one rule steps = list_any (λ step. uses_place rule step.place) steps

-- the rule is quiet, or uses the place of a step that is not yet handed on
abbrev pub IsSettled : Path → Rule → Type 0
IsSettled path rule = IsQuiet path.sides.items rule ⊎ IsTrue (uses_one rule (drop path.handed path.trail.items))

-- each rule is settled, or is among those that are still to be looked at
abbrev pub AreAwaited : List Rule → List ℕ → Path → Type 0
AreAwaited rules numbers path = (number : ℕ) (d : Rule) → number < length rules → IsSettled path (get_or rules number d) ⊎ IsTrue (is_among number numbers)

-- after a look at a rule: it is settled, and so is what was; no step more is handed on
pub record IsLooked (rules : List Rule) (number : ℕ) (old new : Path) : Type 0 where
  pub kept : (rule : Rule) → IsSettled old rule → IsSettled new rule
  pub looked : (d : Rule) → number < length rules → IsSettled new (get_or rules number d)
  pub handed : new.handed ≤ length new.trail.items
  pub cursor : new.handed ≡ old.handed

-- where the search stands: the steps lead there from the start, and each rule is settled
pub record IsReached (rules : List Rule) (start : List Side) (path : Path) : Type 0 where
  pub leads : Leads rules start path.trail.items path.sides.items
  pub settled : All (IsSettled path) rules
  pub handed : path.handed ≤ length path.trail.items

-- all rules are settled, and no step more is handed on; or one is a conflict
abbrev pub IsHandedOn : List Rule → Path → Path → Bool → Type 0
IsHandedOn rules old new true = All (IsSettled new) rules × (new.handed ≤ length new.trail.items) × (new.handed ≡ old.handed)
IsHandedOn rules old new false = IsTrue (has_conflict new.sides.items rules)

-- the search stands somewhere, or no choice keeps the rules
abbrev pub IsBegun : List Rule → List Side → Path → Bool → Type 0
IsBegun rules start path true = IsReached rules start path
IsBegun rules start path false = IsDead rules start

-- the first step that was not handed on is, and nothing else changes; or there is no such step
abbrev pub IsNext : Path → Path → Option ℕ → Type 0
IsNext old new None = (new ≡ old) × (length old.trail.items ≤ old.handed)
IsNext old new (Some place) = (new.sides.items ≡ old.sides.items) × (new.trail.items ≡ old.trail.items) × (new.handed ≡ old.handed + 1) × (old.handed < length old.trail.items) × ((d : Step) → (get_or old.trail.items old.handed d).place ≡ place)
