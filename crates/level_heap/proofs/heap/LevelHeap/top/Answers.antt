use Rattle.std.proofs.Common.{◌≡◌, Some, None, length, sym, ap, subst, ◌∙◌}
use Rattle.level_heap.specs.Trees.{top_of, last_of}
use Rattle.level_heap.specs.Arenas.{tree_at, IsBelow}
use Rattle.level_heap.proofs.ArenaTrees.{tree_at-none, tree_at-node}
use Rattle.level_heap.proofs.Heaps.{top_least, topless}
use Rattle.level_heap.proofs.LevelTrees.{last_tree, last_below}
use Rattle.level_heap.proofs.heap.LevelHeap.top.Goals as goal
use Rattle.level_heap.proofs.heap.LevelHeap.top.Goals.{After-from_residual, After-index}

no_top : (c : After-from_residual) → top_of (last_of c.args.self.now) ≡ None
no_top c = ap top_of (ap last_of (sym c.self.view_is) ∙ last_tree _ _ _ _ c.as_slice.ensures.value c.last_level.ensures) ∙ (ap (λ root. top_of (tree_at c.self.inside.nodes.items root)) c.in_err-root.was ∙ ap top_of (tree_at-none c.self.inside.nodes.items))

some_top : (c : After-index) → top_of (last_of c.args.self.now) ≡ Some c.index.result.now.item
some_top c =
    let nodes = c.self.inside.nodes.items in
    let within = subst (λ root. IsBelow root (length nodes)) c.in_ok-root.was (last_below nodes _ _ _ c.self.invariant c.as_slice.ensures.value c.last_level.ensures) in
    ap top_of (ap last_of (sym c.self.view_is) ∙ last_tree _ _ _ _ c.as_slice.ensures.value c.last_level.ensures) ∙ (ap (λ root. top_of (tree_at nodes root)) c.in_ok-root.was ∙ ap top_of (tree_at-node nodes c.in_ok-root.root c.index.result.now c.self.invariant.arena within c.index.ensures))

pub returns-in_err-root-clause-top : goal.returns-in_err-root-clause-top
returns-in_err-root-clause-top c = c.from_residual.ensures ∙ sym (no_top c)

pub returns-in_err-root-clause-least : goal.returns-in_err-root-clause-least
returns-in_err-root-clause-least c = λ order total heap. rw c.from_residual.ensures (topless (last_of c.args.self.now) (no_top c))

pub returns-clause-top : goal.returns-clause-top
returns-clause-top c = sym (some_top c)

pub returns-clause-least : goal.returns-clause-least
returns-clause-least c = λ order total heap. top_least order total (last_of c.args.self.now) _ (some_top c) heap
