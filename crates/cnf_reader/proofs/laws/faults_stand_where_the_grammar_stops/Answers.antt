-- The law is a lemma.
use Rattle.cnf_reader.proofs.Outcomes.{stops_somewhere}
use Rattle.cnf_reader.proofs.laws.faults_stand_where_the_grammar_stops.Goals as goal

pub returns : goal.returns
returns c = stops_somewhere
