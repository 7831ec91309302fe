use Rattle.std.proofs.Common.{length, ◌≡◌, ◌≤◌, ◌+◌}
use Rattle.proof_tree.specs.Bare.{bare}
use Rattle.proof_tree.specs.DocText.{blocks_lines}
use Rattle.proof_tree.specs.Reading.{BeginsWithBlocks}
use Rattle.proof_tree.proofs.reading.read_blocks.Given as goal

abbrev pub invariant-loop-found : goal.invariant-loop-found
invariant-loop-found l = record {
  so : BeginsWithBlocks l.problem (bare l.bytes) (bare l.rest) l.blocks.items;
  counted : l.number ≡ length (blocks_lines 1 l.blocks.items) + 2;
  short : l.number + length l.rest ≤ 2 + length l.bytes;
}

abbrev pub decreases-loop-found : goal.decreases-loop-found
decreases-loop-found l = length l.rest
