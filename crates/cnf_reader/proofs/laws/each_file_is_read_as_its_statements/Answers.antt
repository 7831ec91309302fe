-- The law is a lemma.
use Rattle.cnf_reader.proofs.Outcomes.{read_as_said}
use Rattle.cnf_reader.proofs.laws.each_file_is_read_as_its_statements.Goals as goal

pub returns : goal.returns
returns c = read_as_said
