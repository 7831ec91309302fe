use Rattle.mg_word.proofs.AppliedWords.{words_applied}
use Rattle.mg_word.proofs.word_laws.words_are_symbols_with_arguments.Goals as goal

pub returns : goal.returns
returns c = words_applied
