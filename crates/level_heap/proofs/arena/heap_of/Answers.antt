use Rattle.std.proofs.Common.{◌≡◌, ◌-◌, None, subst, sym, arith}
use Rattle.std.specs.List.{range_with_len}
use Rattle.level_heap.specs.Trees.{Empty, IsNext}
use Rattle.level_heap.specs.Arenas.{tree_at}
use Rattle.level_heap.proofs.ArenaTrees.{grows-same, grows-then}
use Rattle.level_heap.proofs.Merges.{next_none, next_number}
use Rattle.level_heap.proofs.arena.heap_of.Goals as goal

pub loop-item-init : goal.loop-item-init
loop-item-init g c =
    let order = g.O.Order.order c.args.order.now in
    let is_dead = g.O.Order.is_dead c.args.order.now in
    let nodes = c.args.nodes.now.items in
    let none : c.args.start - c.args.start ≡ 0 = omega arith in
    record {
      arena = c.requires.arena;
      grows = grows-same nodes;
      below = tt;
      upto = omega arith;
      next = subst (λ count. IsNext order is_dead Empty (range_with_len c.args.start count) (tree_at nodes None)) (sym none) (next_none order is_dead nodes);
    }

pub loop-item-preserved : goal.loop-item-preserved
loop-item-preserved g c =
    let before = c.loop-item.invariant in record {
      arena = c.with_item.ensures.arena;
      grows = grows-then _ _ _ before.grows c.with_item.ensures.grows;
      below = c.in_ok-root.ensures.below;
      upto = omega arith;
      next = next_number (g.O.Order.order c.args.order.now) (g.O.Order.is_dead c.args.order.now) _ _ _ c.args.start c.loop-item.item (omega arith) before.next c.in_ok-root.ensures.next;
    }
