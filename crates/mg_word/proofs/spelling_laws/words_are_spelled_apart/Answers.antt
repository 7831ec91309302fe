use Rattle.mg_word.proofs.SpelledWords.{words_apart}
use Rattle.mg_word.proofs.spelling_laws.words_are_spelled_apart.Goals as goal

pub returns : goal.returns
returns c = words_apart
