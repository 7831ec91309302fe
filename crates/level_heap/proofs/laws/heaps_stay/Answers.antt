use Rattle.level_heap.proofs.OtherOrders.{heap_stays}
use Rattle.level_heap.proofs.laws.heaps_stay.Goals as goal

pub returns : goal.returns
returns c = heap_stays
