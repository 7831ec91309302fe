use Rattle.std.proofs.Common.{◌+◌, arith}
use Rattle.proof_tree.specs.Bare.{bare}
use Rattle.proof_tree.specs.Standing.{at_inside, at_outside, behind_block}
use Rattle.proof_tree.proofs.DocLeads.{block_places}
use Rattle.proof_tree.proofs.FaultsFrom.{outside_fault, block_tree_fault}
use Rattle.proof_tree.proofs.SetLines.{inside_at, outside_at}
use Rattle.proof_tree.proofs.reading.read_block.Goals as goal

pub returns-in-Err-clause-read : goal.returns-in-Err-clause-read
returns-in-Err-clause-read c = λ blocks. c.in-Err.ensures.read (at_inside blocks) (inside_at c.args.problem.now blocks)

pub returns-in-Err-take_set-clause-read : goal.returns-in-Err-take_set-clause-read
returns-in-Err-take_set-clause-read c =
    λ blocks.
    outside_fault c.args.problem.now blocks (bare c.args.bytes.now) (bare c.in-Ok.found.1.now) c.in-Ok.found.0 c.args.number (c.args.number + 1) c.in-Err-take_set.fault (omega arith) c.in-Ok.ensures.read (c.in-Err-take_set.ensures.read (at_outside blocks) (outside_at c.args.problem.now blocks))

pub returns-in-Err-read_tree-clause-read : goal.returns-in-Err-read_tree-clause-read
returns-in-Err-read_tree-clause-read c =
    λ blocks.
    outside_fault c.args.problem.now blocks (bare c.args.bytes.now) (bare c.in-Ok.found.1.now) c.in-Ok.found.0 c.args.number (c.args.number + 1) c.in-Err-read_tree.fault (omega arith) c.in-Ok.ensures.read
    (block_tree_fault c.args.problem.now blocks (bare c.in-Ok.found.1.now) (bare c.in-Ok-take_set.found.1.now) c.in-Ok-take_set.found.0 (c.args.number + 1) (c.args.number + 2) c.in-Err-read_tree.fault (omega arith) c.in-Ok-take_set.ensures.read
    (c.in-Err-read_tree.ensures.read (behind_block blocks) (block_places c.args.problem.now blocks)))
