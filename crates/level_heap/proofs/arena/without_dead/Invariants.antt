use Rattle.std.proofs.Common.{[], length}
use Rattle.level_heap.specs.Trees.{members, IsNext}
use Rattle.level_heap.specs.Arenas.{Grows, IsArena, IsBelow, tree_at}
use Rattle.level_heap.proofs.arena.without_dead.Given as goal

abbrev pub invariant-loop-next : goal.invariant-loop-next
invariant-loop-next g l = record {
  arena : IsArena l.nodes.items;
  grows : Grows l.initial.nodes.items l.nodes.items;
  below : IsBelow l.next (length l.nodes.items);
  next : IsNext (g.O.Order.order l.order) (g.O.Order.is_dead l.order) (tree_at l.initial.nodes.items l.fn.root) [] (tree_at l.nodes.items l.next);
}

abbrev pub decreases-loop-next : goal.decreases-loop-next
decreases-loop-next g l = length (members (tree_at l.nodes.items l.next))
