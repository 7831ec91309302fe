-- The law is a lemma.
use Rattle.cnf_reader.proofs.Tabled.{rows_tell}
use Rattle.cnf_reader.proofs.laws.faults_are_the_rows_of_a_table.Goals as goal

pub returns : goal.returns
returns c = rows_tell
