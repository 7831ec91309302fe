-- The law is a lemma.
use Rattle.cnf_grammar.proofs.Joined.{only_files}
use Rattle.cnf_grammar.proofs.laws.only_files_are_accepted.Goals as goal

pub returns : goal.returns
returns c = only_files
