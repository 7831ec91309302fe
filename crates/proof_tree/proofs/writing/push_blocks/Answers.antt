use Rattle.proof_tree.proofs.Written.{blocks_more}
use Rattle.proof_tree.proofs.writing.push_blocks.Goals as goal

pub loop-i-preserved : goal.loop-i-preserved
loop-i-preserved c =
    rw c.in_ok-push_block.ensures
    (blocks_more c.args.problem.now c.args.blocks.now c.loop-i.i c.index-blocks-i.result c.args.into.now.items c.loop-i.into.items c.loop-i-test.true c.index-blocks-i.is c.loop-i.invariant)
