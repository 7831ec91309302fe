-- The law is a lemma.
use Rattle.cnf_grammar.proofs.Joined.{stops_at}
use Rattle.cnf_grammar.proofs.laws.stops_at_first_fault.Goals as goal

pub returns : goal.returns
returns c = stops_at
