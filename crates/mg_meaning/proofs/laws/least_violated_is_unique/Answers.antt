use Rattle.mg_meaning.proofs.InstOrders.{least_same, least_not_saturated}
use Rattle.mg_meaning.proofs.laws.least_violated_is_unique.Goals as goal

pub returns : goal.returns
returns c = record { one = least_same; apart = least_not_saturated }
