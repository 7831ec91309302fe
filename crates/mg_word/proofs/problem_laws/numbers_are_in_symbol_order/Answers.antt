use Rattle.mg_word.proofs.SymbolNumbers.{in_symbol_order}
use Rattle.mg_word.proofs.problem_laws.numbers_are_in_symbol_order.Goals as goal

pub returns : goal.returns
returns c = in_symbol_order
