use Rattle.proof_tree.proofs.FineLines.{raw_once}
use Rattle.proof_tree.proofs.laws.lines_are_spelled_apart.Goals as goal

pub returns : goal.returns
returns c = raw_once
