use Rattle.proof_tree.proofs.DocsApart.{docs_apart}
use Rattle.proof_tree.proofs.laws.documents_are_spelled_apart.Goals as goal

pub returns : goal.returns
returns c = docs_apart
