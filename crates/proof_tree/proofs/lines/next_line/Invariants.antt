use Rattle.std.proofs.Common.{length, ◌≡◌, ◌≤◌}
use Rattle.proof_tree.specs.Bare.{bare}
use Rattle.proof_tree.proofs.lines.next_line.Given as goal

abbrev pub invariant-loop-rest : goal.invariant-loop-rest
invariant-loop-rest l = record { same : bare l.bytes ≡ bare l.rest; shorter : length l.rest ≤ length l.bytes }

abbrev pub decreases-loop-rest : goal.decreases-loop-rest
decreases-loop-rest l = length l.rest
