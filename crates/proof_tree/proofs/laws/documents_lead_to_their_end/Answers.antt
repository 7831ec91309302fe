use Rattle.proof_tree.proofs.DocLeads.{doc_leads}
use Rattle.proof_tree.proofs.laws.documents_lead_to_their_end.Goals as goal

pub returns : goal.returns
returns c = doc_leads
