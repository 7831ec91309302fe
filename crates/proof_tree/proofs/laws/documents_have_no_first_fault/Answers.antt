use Rattle.proof_tree.proofs.DocOrFault.{doc_or_fault}
use Rattle.proof_tree.proofs.laws.documents_have_no_first_fault.Goals as goal

pub returns : goal.returns
returns c = doc_or_fault
