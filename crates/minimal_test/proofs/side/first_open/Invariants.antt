use Rattle.std.proofs.Common.{◌≡◌, ℕ, ◌<◌}
use Rattle.minimal_test.specs.declared.side.Side.TheVariants.{Open}
use Rattle.minimal_test.specs.Choices.{side_at}
use Rattle.minimal_test.proofs.side.first_open.Given as goal

-- no place before this one is open
abbrev pub invariant-loop-place : goal.invariant-loop-place
invariant-loop-place l = (k : ℕ) → k < l.place → side_at l.sides k ≡ Open → ⊥
