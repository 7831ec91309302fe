-- The steps of a search after Davis, Putnam, Logemann and Loveland: trials, each out, and what is forced behind them.
use Rattle.std.specs.Prelude.{◌≡◌, ℕ, zero, suc, ◌+◌, ◌*◌, ◌≤◌, Bool, true, false, cond, List, [], ◌∷◌, slice_set, IsTrue}
use Rattle.minimal_test.specs.declared.rule.Rule.{Rule}
use Rattle.minimal_test.specs.declared.side.Side.{Side}
use Rattle.minimal_test.specs.declared.side.Side.TheVariants.{Open, In, Out}
use Rattle.minimal_test.specs.declared.path.Step.{Step}
use Rattle.minimal_test.specs.declared.path.Path.{Path}
use Rattle.minimal_test.specs.Choices.{keeps, side_at, side_of}
use Rattle.minimal_test.specs.Findings.{AreClosed}

-- the choice has each decided place on its side
abbrev pub Agrees : List Side → (ℕ → Bool) → Type 0
Agrees sides chosen = (place : ℕ) (is_in : Bool) → side_at sides place ≡ side_of is_in → chosen place ≡ is_in

-- no choice that agrees keeps the rules
abbrev pub IsDead : List Rule → List Side → Type 0
IsDead rules sides = (chosen : ℕ → Bool) → IsTrue (keeps chosen rules) → Agrees sides chosen → ⊥

-- the step takes an open place: a trial puts it out, where the sides are closed, and any other step puts it where each choice has it that agrees and keeps the rules
pub record IsStep (rules : List Rule) (sides : List Side) (step : Step) : Type 0 where
  pub open_place : side_at sides step.place ≡ Open
  pub tried : step.is_tried ≡ true → step.is_in ≡ false
  pub closed : step.is_tried ≡ true → AreClosed sides rules
  pub forced : step.is_tried ≡ false → (chosen : ℕ → Bool) → IsTrue (keeps chosen rules) → Agrees sides chosen → chosen step.place ≡ step.is_in

-- the sides after a step
abbrev pub moved : List Side → Step → List Side
moved sides step = slice_set sides step.place (side_of step.is_in)

-- the steps lead from the ones to the others
abbrev pub Leads : List Rule → List Side → List Step → List Side → Type 0
Leads rules start [] sides = start ≡ sides
Leads rules start (step ∷ steps) sides = IsStep rules start step × Leads rules (moved start step) steps sides

-- how many places are open
abbrev pub opens : List Side → ℕ
opens [] = 0
opens (Open ∷ sides) = suc (opens sides)
opens (In ∷ sides) = opens sides
opens (Out ∷ sides) = opens sides

-- 3 to that power, more than the steps of a search with so many open places
abbrev pub effort : ℕ → ℕ
effort zero = 1
effort (suc places) = 3 * effort places

-- what the trials still owe: for each, the search with its place in
abbrev pub debt : List Side → List Step → ℕ
debt start [] = 0
debt start (step ∷ steps) = cond step.is_tried (effort (opens (moved start step))) 0 + debt (moved start step) steps

-- the path goes on by forced steps
pub record Extends (rules : List Rule) (old new : Path) : Type 0 where
  pub leads : (start : List Side) → Leads rules start old.trail.items old.sides.items → Leads rules start new.trail.items new.sides.items
  pub owes : (start : List Side) → Leads rules start old.trail.items old.sides.items → debt start new.trail.items ≡ debt start old.trail.items
  pub fewer : opens new.sides.items ≤ opens old.sides.items
