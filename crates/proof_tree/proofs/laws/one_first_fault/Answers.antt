use Rattle.proof_tree.proofs.OneFirstFault.{one_first_fault as one_lem}
use Rattle.proof_tree.proofs.laws.one_first_fault.Goals as goal

pub returns : goal.returns
returns c = one_lem
