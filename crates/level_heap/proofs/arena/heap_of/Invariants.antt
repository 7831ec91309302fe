use Rattle.std.proofs.Common.{◌-◌, ◌≤◌, length}
use Rattle.level_heap.specs.Trees.{Empty, IsNext, numbers_between}
use Rattle.level_heap.specs.Arenas.{Grows, IsArena, IsBelow, tree_at}
use Rattle.level_heap.proofs.arena.heap_of.Given as goal

abbrev pub invariant-loop-item : goal.invariant-loop-item
invariant-loop-item g l = record {
  arena : IsArena l.nodes.items;
  grows : Grows l.initial.nodes.items l.nodes.items;
  below : IsBelow l.root (length l.nodes.items);
  upto : l.item - l.fn.start ≤ l.fn.end - l.fn.start;
  next : IsNext (g.O.Order.order l.order) (g.O.Order.is_dead l.order) Empty (numbers_between l.fn.start l.item) (tree_at l.nodes.items l.root);
}
