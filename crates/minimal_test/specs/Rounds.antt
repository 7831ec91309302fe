-- A round of the search: propagation, and then a trial, or the way back where a rule is a conflict.
use Rattle.std.specs.Prelude.{◌≡◌, ℕ, ◌+◌, ◌<◌, Bool, true, false, List, IsTrue}
use Rattle.minimal_test.specs.declared.rule.Rule.{Rule}
use Rattle.minimal_test.specs.declared.side.Side.{Side}
use Rattle.minimal_test.specs.declared.path.Path.{Path}
use Rattle.minimal_test.specs.declared.search.Round.{Round}
use Rattle.minimal_test.specs.declared.search.Round.TheVariants.{Found, Exhausted, Further}
use Rattle.minimal_test.specs.Choices.{keeps, chosen_of}
use Rattle.minimal_test.specs.Paths.{IsDead, Leads, opens, effort, debt}
use Rattle.minimal_test.specs.Settled.{IsReached}

-- the last trial is taken back and its place put in; or there is no trial, and so no choice keeps the rules
abbrev pub IsFlipped : List Rule → List Side → Path → Path → Bool → Type 0
IsFlipped rules start old new true = IsReached rules start new × (debt start new.trail.items + effort (opens new.sides.items) ≡ debt start old.trail.items)
IsFlipped rules start old new false = IsDead rules start

-- what the search from there may still cost
abbrev pub owed : List Side → Path → ℕ
owed start path = debt start path.trail.items + effort (opens path.sides.items)

-- the sides are a choice that keeps the rules; or no choice does; or the search goes on, and owes less
abbrev pub IsRound : List Rule → Path → Path → Round → Type 0
IsRound rules old new Found = IsTrue (keeps (chosen_of new.sides.items) rules)
IsRound rules old new Exhausted = (start : List Side) → Leads rules start old.trail.items old.sides.items → IsDead rules start
IsRound rules old new Further = (start : List Side) → Leads rules start old.trail.items old.sides.items → IsReached rules start new × (owed start new < owed start old)
