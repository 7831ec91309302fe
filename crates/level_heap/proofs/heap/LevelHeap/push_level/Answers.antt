use Rattle.std.proofs.Common.{◌≡◌, [], ◌∷◌, ◌++◌, length, sym, ap, subst, ◌∙◌, arith}
use Rattle.std.proofs.lemmas.Result.{err_from_is_err_and}
use Rattle.level_heap.specs.Trees.{last_of, numbers_between, IsHeap, IsNext}
use Rattle.level_heap.specs.Arenas.{tree_at}
use Rattle.level_heap.proofs.LevelTrees.{last_tree, levels_grown, levels_pushed}
use Rattle.level_heap.proofs.heap.LevelHeap.push_level.Goals as goal

pub next_root-requires-clause-heap : goal.next_root-requires-clause-heap
next_root-requires-clause-heap g c =
    subst (IsHeap (g.O.Order.order c.args.order.now)) (ap last_of (sym c.self.view_is) ∙ last_tree _ _ _ _ c.as_slice.ensures.value c.last_level-last.ensures) c.requires

pub invariant_of-self : goal.invariant_of-self
invariant_of-self g c = (levels_grown _ _ _ c.self.invariant c.next_root.ensures.arena c.next_root.ensures.grows).0

pub returns-in_err-root-clause-err : goal.returns-in_err-root-clause-err
returns-in_err-root-clause-err g c =
    let failed = err_from_is_err_and c.from_residual.result c.from_residual.ensures.1 in
    rw failed.1 ((levels_grown _ _ _ c.self.invariant c.next_root.ensures.arena c.next_root.ensures.grows).1 ∙ c.self.view_is)

pub invariant_of-self-in_err-push : goal.invariant_of-self-in_err-push
invariant_of-self-in_err-push g c = rw c.in_err-push.ensures.items (levels_grown _ _ _ c.self.invariant c.next_root.ensures.arena c.next_root.ensures.grows).0

pub returns-in_err-push-clause-err : goal.returns-in_err-push-clause-err
returns-in_err-push-clause-err g c =
    let failed = err_from_is_err_and c.from_residual-in_err-push.result c.from_residual-in_err-push.ensures.1 in
    rw (failed.1, c.in_err-push.ensures.items) ((levels_grown _ _ _ c.self.invariant c.next_root.ensures.arena c.next_root.ensures.grows).1 ∙ c.self.view_is)

pub invariant_of-self-2 : goal.invariant_of-self-2
invariant_of-self-2 g c = (levels_pushed _ _ _ _ _ c.in_ok-push.ensures.items c.self.invariant c.next_root.ensures.arena c.next_root.ensures.grows c.in_ok-root.ensures.below (let e : c.len.result ≡ length c.next_root.new.nodes.items = omega arith in e)).0

pub returns-clause-ok : goal.returns-clause-ok
returns-clause-ok g c =
    let order = g.O.Order.order c.args.order.now in
    let is_dead = g.O.Order.is_dead c.args.order.now in
    let level = tree_at c.next_root.new.nodes.items c.in_ok-root.root in
    let last = ap last_of (sym c.self.view_is) ∙ last_tree _ _ _ _ c.as_slice.ensures.value c.last_level-last.ensures in (
      level,
      (levels_pushed _ _ _ _ _ c.in_ok-push.ensures.items c.self.invariant c.next_root.ensures.arena c.next_root.ensures.grows c.in_ok-root.ensures.below (let e : c.len.result ≡ length c.next_root.new.nodes.items = omega arith in e)).1
          ∙ ap (λ levels. levels ++ level ∷ []) c.self.view_is,
      subst (λ old. IsNext order is_dead old (numbers_between c.args.items.start c.args.items.end) level) (sym last) c.in_ok-root.ensures.next,
      c.in_ok-root.ensures.alive,
    )
