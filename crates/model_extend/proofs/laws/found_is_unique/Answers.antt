use Rattle.model_extend.proofs.Rightly.{found_same}
use Rattle.model_extend.proofs.laws.found_is_unique.Goals as goal

pub returns : goal.returns
returns c = found_same
