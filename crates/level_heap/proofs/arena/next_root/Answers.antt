use Rattle.level_heap.proofs.Merges.{heap_grown, next_whole}
use Rattle.level_heap.proofs.arena.next_root.Goals as goal

pub merge-requires-clause-a_heap : goal.merge-requires-clause-a_heap
merge-requires-clause-a_heap g c = heap_grown (g.O.Order.order c.args.order.now) c.args.nodes.now.items _ _ c.heap_of.ensures.grows c.requires.below c.requires.heap

pub returns-clause-next : goal.returns-clause-next
returns-clause-next g c =
    next_whole (g.O.Order.order c.args.order.now) (g.O.Order.is_dead c.args.order.now) c.args.nodes.now.items c.heap_of.new.nodes.items c.merge.new.nodes.items c.without_dead.new.nodes.items c.args.root c.in_ok-fresh.fresh c.in_ok-merged.merged c.in_ok-next.next _
    c.heap_of.ensures.grows c.requires.below c.in_ok-fresh.ensures.next c.in_ok-merged.ensures.merged c.in_ok-next.ensures.next
