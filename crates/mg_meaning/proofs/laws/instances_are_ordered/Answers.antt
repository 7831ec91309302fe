use Rattle.mg_meaning.proofs.InstOrders.{inst_total, insts_same}
use Rattle.mg_meaning.proofs.laws.instances_are_ordered.Goals as goal

pub returns : goal.returns
returns c = record { total = inst_total; exact = insts_same }
