use Rattle.std.proofs.Common.{arith, length, Some, ap, ◌∙◌, ◌≤◌}
use Rattle.tree_board.specs.Searches.{board_of}
use Rattle.tree_board.proofs.QuickSettling.{first_covers, none_covers, none_further}
use Rattle.tree_board.proofs.board.Board.first_cover.Goals as goal

pub returns-then-branch : goal.returns-then-branch
returns-then-branch c = first_covers _ _ _ c.loop-node.invariant (c.in_ok-covers.ensures ∙ ap Some c.if-branch.true)

pub returns : goal.returns
returns c =
    let last : length (board_of c.args.self.now).nodes ≤ c.loop-node.node = omega (arith, c.nodes-node-end.ensures) in
    none_covers _ _ _ c.loop-node.invariant last

pub loop-node-preserved : goal.loop-node-preserved
loop-node-preserved c = none_further _ _ _ c.loop-node.invariant (c.in_ok-covers.ensures ∙ ap Some c.if-branch.false)
