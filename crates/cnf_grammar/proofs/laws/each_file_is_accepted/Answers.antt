-- The law is a lemma.
use Rattle.cnf_grammar.proofs.Joined.{every_file}
use Rattle.cnf_grammar.proofs.laws.each_file_is_accepted.Goals as goal

pub returns : goal.returns
returns c = every_file
