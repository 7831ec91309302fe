use Rattle.proof_tree.proofs.NodeLines.{by_is, by_fault}
use Rattle.proof_tree.proofs.nodes.read_by.Goals as goal

pub returns-in-Some : goal.returns-in-Some
returns-in-Some c = by_is c.args.problem.now c.args.text.now c.in-Some.number c.in-Some.ensures

pub returns-in-None : goal.returns-in-None
returns-in-None c = by_fault c.args.problem.now c.args.text.now c.in-None.ensures
