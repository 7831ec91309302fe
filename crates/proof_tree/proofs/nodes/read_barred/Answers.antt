use Rattle.proof_tree.proofs.NodeLines.{barred_is, barred_fault}
use Rattle.proof_tree.proofs.nodes.read_barred.Goals as goal

pub returns-in-Ok : goal.returns-in-Ok
returns-in-Ok c = barred_is c.args.problem.now c.args.text.now c.in-Ok.lit c.in-Ok.ensures

pub returns-in-Err : goal.returns-in-Err
returns-in-Err c = barred_fault c.args.problem.now c.args.text.now c.in-Err.fault c.in-Err.ensures
