use Rattle.std.proofs.Common.{inl, inr, refl, sym, ap, ◌∙◌}
use Rattle.std.specs.Ordering.{is_gt}
use Rattle.level_heap.proofs.Heaps.{turned}
use Rattle.level_heap.proofs.Merges.{ahead_by_items}
use Rattle.level_heap.proofs.arena.by_tops.Goals as goal

pub returns-then-is_gt : goal.returns-then-is_gt
returns-then-is_gt g c =
    let total = g.met.O.Order.total c.args.order.now in record {
      either = inr (refl, refl);
      ahead = ahead_by_items _ total _ _ _ _ _ c.requires.arena c.requires.b_there c.requires.a_there c.requires.a_heap
          (turned _ total _ _ (sym (ap is_gt c.compare-tops.ensures) ∙ sym c.is_gt.ensures ∙ c.if-is_gt.true));
    }

pub returns-else-is_gt : goal.returns-else-is_gt
returns-else-is_gt g c = record {
  either = inl (refl, refl);
  ahead = ahead_by_items _ (g.met.O.Order.total c.args.order.now) _ _ _ _ _ c.requires.arena c.requires.a_there c.requires.b_there c.requires.b_heap
      (sym (ap is_gt c.compare-tops.ensures) ∙ sym c.is_gt.ensures ∙ c.if-is_gt.false);
}
