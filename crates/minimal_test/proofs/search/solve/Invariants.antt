use Rattle.std.proofs.Common.{replicate}
use Rattle.minimal_test.specs.declared.side.Side.TheVariants.{Open}
use Rattle.minimal_test.specs.Settled.{IsReached}
use Rattle.minimal_test.specs.Uses.{AreUses}
use Rattle.minimal_test.specs.Rounds.{owed}
use Rattle.minimal_test.proofs.search.solve.Given as goal

abbrev pub invariant-loop-path : goal.invariant-loop-path
invariant-loop-path l = IsReached l.rules (replicate l.count Open) l.path × AreUses l.rules l.count l.uses

abbrev pub decreases-loop-path : goal.decreases-loop-path
decreases-loop-path l = owed (replicate l.count Open) l.path
