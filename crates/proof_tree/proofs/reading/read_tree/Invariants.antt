use Rattle.std.proofs.Common.{length, ◌≤◌, ◌<◌, ◌+◌, ◌*◌, ◌^◌}
use Rattle.proof_tree.specs.Bare.{bare}
use Rattle.proof_tree.proofs.FaultsFrom.{IsTreeFront}
use Rattle.proof_tree.proofs.reading.read_tree.Given as goal

abbrev pub invariant-loop-open : goal.invariant-loop-open
invariant-loop-open l = record {
  front : IsTreeFront l.problem (bare l.bytes) (bare l.rest) l.lines.items l.open;
  short : length l.lines.items + length l.rest ≤ length l.bytes;
  small : l.open < 1 + (1 + length l.lines.items) * 2 ^ 63;
}

abbrev pub decreases-loop-open : goal.decreases-loop-open
decreases-loop-open l = length l.rest
