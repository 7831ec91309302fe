use Rattle.case_split.proofs.EachChild.{length-children_of, child_at_index}
use Rattle.case_split.proofs.laws.children_go_by_index.Goals as goal

pub returns : goal.returns
returns c = record { many = length-children_of; each = child_at_index }
