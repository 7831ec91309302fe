use Rattle.std.proofs.Common.{◌+◌, ◌-◌, List, length}
use Rattle.minimal_test.specs.declared.side.Side.{Side}
use Rattle.minimal_test.specs.Paths.{Extends, opens}
use Rattle.minimal_test.specs.Settled.{IsReached}
use Rattle.minimal_test.specs.Uses.{AreUses}
use Rattle.minimal_test.proofs.propagation.propagate.Given as goal

abbrev pub invariant-loop-place : goal.invariant-loop-place
invariant-loop-place l = record {
  extends : Extends l.rules l.initial.path l.path;
  reached : (start : List Side) × IsReached l.rules start l.path × AreUses l.rules (length start) l.uses;
}

abbrev pub decreases-loop-place : goal.decreases-loop-place
decreases-loop-place l = (opens l.path.sides.items + length l.path.trail.items) - l.path.handed
