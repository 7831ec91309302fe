use Rattle.std.proofs.Common.{take, ap, ◌∙◌}
use Rattle.level_heap.proofs.LevelTrees.{levels_popped}
use Rattle.level_heap.proofs.heap.LevelHeap.pop_to.Goals as goal

pub invariant_of-self : goal.invariant_of-self
invariant_of-self c = (levels_popped _ _ _ _ _ _ c.args.depth c.self.invariant c.truncate.ensures.items c.as_slice.ensures.value c.last_level-end.ensures c.truncate-2.ensures.items).0

pub returns : goal.returns
returns c =
    (levels_popped _ _ _ _ _ _ c.args.depth c.self.invariant c.truncate.ensures.items c.as_slice.ensures.value c.last_level-end.ensures c.truncate-2.ensures.items).1
    ∙ ap (take c.args.depth) c.self.view_is
