use Rattle.mg_word.specs.Sets.{holds}
use Rattle.mg_word.specs.Words.{complement_of}
use Rattle.case_split.proofs.EachChild.{is_some-closure_by}
use Rattle.case_split.proofs.laws.closed_as_in_plain_tree.Goals as goal

pub returns : goal.returns
returns c = λ held barred conclusion. is_some-closure_by (holds held (complement_of conclusion)) (holds barred conclusion) conclusion
