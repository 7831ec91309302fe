use Rattle.mg_word.proofs.SpelledWords.{lits_apart}
use Rattle.mg_word.proofs.spelling_laws.lits_are_spelled_apart.Goals as goal

pub returns : goal.returns
returns c = lits_apart
