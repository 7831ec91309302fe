use Rattle.mg_meaning.proofs.Herbrand.{herbrand_model}
use Rattle.mg_meaning.proofs.laws.satisfying_is_herbrand_model.Goals as goal

pub returns : goal.returns
returns c = herbrand_model
