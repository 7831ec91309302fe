use Rattle.mg_word.proofs.SpelledTerms.{symbols_apart}
use Rattle.mg_word.proofs.spelling_laws.symbols_are_spelled_apart.Goals as goal

pub returns : goal.returns
returns c = symbols_apart
