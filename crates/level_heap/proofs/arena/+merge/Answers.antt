use Rattle.std.proofs.Common.{ℕ, ◌<◌, length, Some, ap, subst, arith}
use Rattle.level_heap.specs.Trees.{IsHeap, IsMerged}
use Rattle.level_heap.specs.Arenas.{tree_at, IsBelow, IsChoice}
use Rattle.level_heap.proofs.ArenaTrees.{leads, leads_right}
use Rattle.level_heap.proofs.Heaps.{merged_turned}
use Rattle.level_heap.proofs.Merges.{height_of, height-below, by_choice, choice-sum, node_heap, merged_empty, merged_nodes}
use Rattle.level_heap.proofs.arena.+merge.Goals as goal

pub returns-in_default-clause-merged : goal.returns-in_default-clause-merged
returns-in_default-clause-merged g t c = merged_empty _ c.args.nodes.now.items c.args.a c.args.b c.in_default.is c.requires.b_heap

pub returns-in_default-b-clause-merged : goal.returns-in_default-b-clause-merged
returns-in_default-b-clause-merged g t c =
    let order = g.O.Order.order c.args.order.now in
    let nodes = c.args.nodes.now.items in
    let all = merged_turned order _ _ _ (merged_empty order nodes c.args.b c.args.a c.in_default-b.is c.requires.a_heap) in
    subst (λ link. IsMerged order (tree_at nodes c.args.a) (tree_at nodes c.args.b) (tree_at nodes link)) c.in-Some.is all

pub merge-requires : goal.merge-requires
merge-requires g t c κs within =
    let order = g.O.Order.order c.args.order.now in
    let nodes = c.args.nodes.now.items in
    let a = c.in-Some.a in
    let b = c.in-Some-b.b in
    let front = c.by_tops-front.result.0 in
    let back = c.by_tops-front.result.1 in
    let top = c.index-top.result.now in
    let There : ℕ → Type 0 = λ k. (k < length nodes) × IsHeap order (tree_at nodes (Some k)) in
    let on_a : There a = (subst (λ link. IsBelow link (length nodes)) c.in-Some.is c.requires.a_below, subst (λ link. IsHeap order (tree_at nodes link)) c.in-Some.is c.requires.a_heap) in
    let on_b : There b = (subst (λ link. IsBelow link (length nodes)) c.in-Some-b.is c.requires.b_below, subst (λ link. IsHeap order (tree_at nodes link)) c.in-Some-b.is c.requires.b_heap) in
    let choice = subst (λ all. IsChoice order all a b front back) c.as_slice.ensures.value c.by_tops-front.ensures in
    let both : There front × There back = by_choice order nodes a b front back There choice on_a on_b in
    let sum = choice-sum order nodes a b front back choice in
    let falls = height-below top.right front (leads nodes front top c.requires.arena both.0.0 c.index-top.ensures).right in
    let is_a = ap height_of c.in-Some.is in
    let is_b = ap height_of c.in-Some-b.is in
    let parts = node_heap order nodes front top c.requires.arena both.0.0 c.index-top.ensures both.0.1 in
    (omega (arith, c.decreases, sum, falls, is_a, is_b), (within, (c.requires.arena, (leads_right nodes front top c.requires.arena both.0.0 c.index-top.ensures, (both.1.0, (parts.2, both.1.1))))))

pub returns-clause-merged : goal.returns-clause-merged
returns-clause-merged g t c =
    let order = g.O.Order.order c.args.order.now in
    let nodes = c.args.nodes.now.items in
    let a = c.in-Some.a in
    let b = c.in-Some-b.b in
    let front = c.by_tops-front.result.0 in
    let back = c.by_tops-front.result.1 in
    let There : ℕ → Type 0 = λ k. (k < length nodes) × IsHeap order (tree_at nodes (Some k)) in
    let on_a : There a = (subst (λ link. IsBelow link (length nodes)) c.in-Some.is c.requires.a_below, subst (λ link. IsHeap order (tree_at nodes link)) c.in-Some.is c.requires.a_heap) in
    let on_b : There b = (subst (λ link. IsBelow link (length nodes)) c.in-Some-b.is c.requires.b_below, subst (λ link. IsHeap order (tree_at nodes link)) c.in-Some-b.is c.requires.b_heap) in
    let choice = subst (λ all. IsChoice order all a b front back) c.as_slice.ensures.value c.by_tops-front.ensures in
    let both : There front × There back = by_choice order nodes a b front back There choice on_a on_b in
    rw (c.in-Some.is, c.in-Some-b.is)
    (merged_nodes order nodes c.merge.new.nodes.items c.join.new.nodes.items a b front back c.index-top.result.now c.in_ok-rest.rest c.in_ok-root.root
    c.requires.arena choice both.0.0 both.0.1 c.index-top.ensures c.merge.ensures.grows c.in_ok-rest.ensures.merged c.in_ok-root.ensures.joined)
