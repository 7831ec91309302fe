-- The law is a lemma.
use Rattle.cnf_grammar.proofs.Sound.{clause_sound}
use Rattle.cnf_grammar.proofs.laws.each_clause_is_sound.Goals as goal

pub returns : goal.returns
returns c = clause_sound
