use Rattle.proof_tree.proofs.Remarks.{among_remarks}
use Rattle.proof_tree.proofs.laws.documents_stand_among_remarks.Goals as goal

pub returns : goal.returns
returns c = among_remarks
