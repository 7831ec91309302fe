use Rattle.mg_meaning.proofs.Enough.{enough}
use Rattle.mg_meaning.proofs.laws.bound_is_enough.Goals as goal

pub returns : goal.returns
returns c = enough
