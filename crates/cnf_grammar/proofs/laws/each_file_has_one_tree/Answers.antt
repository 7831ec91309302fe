-- The law is a lemma.
use Rattle.cnf_grammar.proofs.OneFile.{one_file}
use Rattle.cnf_grammar.proofs.laws.each_file_has_one_tree.Goals as goal

pub returns : goal.returns
returns c = one_file
