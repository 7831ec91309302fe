use Rattle.std.proofs.Common.{◌≡◌, ◌≤◌, length, drop}
use Rattle.minimal_test.specs.Paths.{Extends}
use Rattle.minimal_test.specs.Settled.{AreAwaited}
use Rattle.minimal_test.proofs.propagation.hand_on.Given as goal

abbrev pub invariant-loop-number : goal.invariant-loop-number
invariant-loop-number l = record {
  extends : Extends l.rules l.initial.path l.path;
  handed : l.path.handed ≤ length l.path.trail.items;
  cursor : l.path.handed ≡ l.initial.path.handed;
  awaited : AreAwaited l.rules (drop l.number-index l.numbers) l.path;
}
