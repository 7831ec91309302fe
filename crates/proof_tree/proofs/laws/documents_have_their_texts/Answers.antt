use Rattle.proof_tree.proofs.Remarks.{own_text}
use Rattle.proof_tree.proofs.laws.documents_have_their_texts.Goals as goal

pub returns : goal.returns
returns c = own_text
