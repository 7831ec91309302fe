-- The law is a lemma.
use Rattle.cnf_grammar.proofs.Whole.{file_gathered}
use Rattle.cnf_grammar.proofs.laws.each_file_leaves_its_meaning.Goals as goal

pub returns : goal.returns
returns c = file_gathered
