use Rattle.mg_meaning.proofs.FunctionFree.{function_free}
use Rattle.mg_meaning.proofs.laws.function_free_is_enough.Goals as goal

pub returns : goal.returns
returns c = function_free
