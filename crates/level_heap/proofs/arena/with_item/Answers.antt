use Rattle.std.proofs.Common.{Some, sym, ◌∙◌}
use Rattle.level_heap.proofs.ArenaTrees.{below-grown}
use Rattle.level_heap.proofs.Nexts.{next_skipped}
use Rattle.level_heap.proofs.Merges.{heap_grown, single_is_heap, next_single}
use Rattle.level_heap.proofs.arena.with_item.Goals as goal

pub returns-then-is_dead-clause-next : goal.returns-then-is_dead-clause-next
returns-then-is_dead-clause-next g c = next_skipped _ _ _ c.args.item c.requires.heap (sym c.is_dead.ensures ∙ c.if-is_dead.true)

pub merge-requires-clause-a_below : goal.merge-requires-clause-a_below
merge-requires-clause-a_below g c = below-grown _ _ _ c.join.ensures.grows c.requires.below

pub merge-requires-clause-a_heap : goal.merge-requires-clause-a_heap
merge-requires-clause-a_heap g c = heap_grown (g.O.Order.order c.args.order.now) c.args.nodes.now.items _ _ c.join.ensures.grows c.requires.below c.requires.heap

pub merge-requires-clause-b_heap : goal.merge-requires-clause-b_heap
merge-requires-clause-b_heap g c = single_is_heap (g.O.Order.order c.args.order.now) c.args.nodes.now.items c.args.item _ c.in_ok-single.ensures.joined

pub returns-clause-next : goal.returns-clause-next
returns-clause-next g c =
    next_single _ _ c.args.nodes.now.items c.join.new.nodes.items c.merge.new.nodes.items c.args.root (Some c.in_ok-single.single) c.in_ok-next.next c.args.item c.join.ensures.grows c.requires.below c.in_ok-single.ensures.joined c.in_ok-next.ensures.merged
