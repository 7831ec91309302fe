use Rattle.std.proofs.Common.{◌≡◌, length, inl, inr, ap, ◌∙◌, arith}
use Rattle.level_heap.specs.Trees.{Node}
use Rattle.level_heap.specs.Arenas.{tree_at}
use Rattle.level_heap.specs.declared.node.HeapNode.{HeapNode}
use Rattle.level_heap.proofs.ArenaTrees.{pushed_join}
use Rattle.level_heap.proofs.arena.join.Goals as goal
use Rattle.level_heap.proofs.arena.join.Goals.{then-a_rank-b_rank, else-a_rank-b_rank}

pub returns-clause-joined : goal.returns-clause-joined
returns-clause-joined c =
    let nodes = c.args.nodes.now.items in
    let place : c.in-Ok.at ≡ length nodes = omega arith in
    let tree = pushed_join nodes _ c.if-a_rank-b_rank.node c.in-Ok.at c.in_ok-push.ensures.items place in
    let shape = λ (node : HeapNode). Node node.item (tree_at nodes node.left) (tree_at nodes node.right) in
    elim c.if-a_rank-b_rank.branch [ then-a_rank-b_rank w ↦ inr (tree ∙ ap shape w.node-is) | else-a_rank-b_rank w ↦ inl (tree ∙ ap shape w.node-is) ]
