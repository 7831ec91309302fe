-- The law is a lemma.
use Rattle.cnf_grammar.proofs.Joined.{front_is}
use Rattle.cnf_grammar.proofs.laws.fronts_lead_on.Goals as goal

pub returns : goal.returns
returns c = front_is
