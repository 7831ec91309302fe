-- The law is a lemma.
use Rattle.cnf_grammar.proofs.Joined.{every_position}
use Rattle.cnf_grammar.proofs.laws.each_position_can_be_completed.Goals as goal

pub returns : goal.returns
returns c = every_position
