use Rattle.std.proofs.Common.{◌<◌, [], length, sym, subst, ◌∙◌}
use Rattle.level_heap.specs.Trees.{members, IsHeap, IsNext}
use Rattle.level_heap.specs.Arenas.{IsBelow, tree_at}
use Rattle.level_heap.proofs.ArenaTrees.{grows-then}
use Rattle.level_heap.proofs.Merges.{node_heap, fewer_members, next_on, next_dropped, alive_node, alive_none}
use Rattle.level_heap.proofs.arena.without_dead.Goals as goal

pub returns-then-not-is_dead-clause-alive : goal.returns-then-not-is_dead-clause-alive
returns-then-not-is_dead-clause-alive g c =
    let nodes = c.loop-next.nodes.items in
    let there = subst (λ link. IsBelow link (length nodes)) c.in-Some.is c.loop-next.invariant.below in
    alive_node (g.O.Order.order c.args.order.now) (g.O.Order.is_dead c.args.order.now) nodes c.in-Some.at c.index-top.result.now c.loop-next.invariant.arena there c.index-top.ensures (sym c.is_dead.ensures ∙ c.if-not-is_dead.true)

pub merge-requires-clause-a_heap : goal.merge-requires-clause-a_heap
merge-requires-clause-a_heap g c =
    let order = g.O.Order.order c.args.order.now in
    let nodes = c.loop-next.nodes.items in
    let there = subst (λ link. IsBelow link (length nodes)) c.in-Some.is c.loop-next.invariant.below in
    let heap = subst (λ link. IsHeap order (tree_at nodes link)) c.in-Some.is c.loop-next.invariant.next.heap in
    (node_heap order nodes c.in-Some.at c.index-top.result.now c.loop-next.invariant.arena there c.index-top.ensures heap).1

pub merge-requires-clause-b_heap : goal.merge-requires-clause-b_heap
merge-requires-clause-b_heap g c =
    let order = g.O.Order.order c.args.order.now in
    let nodes = c.loop-next.nodes.items in
    let there = subst (λ link. IsBelow link (length nodes)) c.in-Some.is c.loop-next.invariant.below in
    let heap = subst (λ link. IsHeap order (tree_at nodes link)) c.in-Some.is c.loop-next.invariant.next.heap in
    (node_heap order nodes c.in-Some.at c.index-top.result.now c.loop-next.invariant.arena there c.index-top.ensures heap).2

pub loop-next-smaller : goal.loop-next-smaller
loop-next-smaller g c =
    let nodes = c.loop-next.nodes.items in
    let there = subst (λ link. IsBelow link (length nodes)) c.in-Some.is c.loop-next.invariant.below in
    let fewer = fewer_members (g.O.Order.order c.args.order.now) nodes c.merge.new.nodes.items c.in-Some.at c.index-top.result.now c.in_ok-next.next c.loop-next.invariant.arena there c.index-top.ensures c.in_ok-next.ensures.merged in
    subst (λ link. length (members (tree_at c.merge.new.nodes.items c.in_ok-next.next)) < length (members (tree_at nodes link))) (sym c.in-Some.is) fewer

pub loop-next-preserved : goal.loop-next-preserved
loop-next-preserved g c =
    let order = g.O.Order.order c.args.order.now in
    let is_dead = g.O.Order.is_dead c.args.order.now in
    let nodes = c.loop-next.nodes.items in
    let new = c.merge.new.nodes.items in
    let before = c.loop-next.invariant in
    let there = subst (λ link. IsBelow link (length nodes)) c.in-Some.is before.below in
    let dropped = next_dropped order is_dead nodes new c.in-Some.at c.index-top.result.now c.in_ok-next.next before.arena there c.index-top.ensures (sym c.is_dead.ensures ∙ c.if-not-is_dead.false) c.in_ok-next.ensures.merged in
    let here = subst (λ link. IsNext order is_dead (tree_at nodes link) [] (tree_at new c.in_ok-next.next)) (sym c.in-Some.is) dropped in
    record {
      arena = c.merge.ensures.arena;
      grows = grows-then _ _ _ before.grows c.merge.ensures.grows;
      below = c.in_ok-next.ensures.below;
      next = next_on order is_dead _ _ _ [] before.next here;
    }

pub returns-clause-alive : goal.returns-clause-alive
returns-clause-alive g c = alive_none (g.O.Order.order c.args.order.now) (g.O.Order.is_dead c.args.order.now) _ _ c.in_default.is
