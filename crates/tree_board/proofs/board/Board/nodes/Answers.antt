use Rattle.std.proofs.Common.{ap, arith, length}
use Rattle.tree_board.specs.Searches.{Search, board_of}
use Rattle.tree_board.proofs.Kept.{few_cells, nodes_kept}
use Rattle.tree_board.proofs.board.Board.nodes.Goals as goal

pub overflow_cast-result : goal.overflow_cast-result
overflow_cast-result c = let few = few_cells _ _ _ _ _ _ c.self.invariant in omega (arith, few)

pub returns : goal.returns
returns c =
    let kept = nodes_kept _ _ _ _ _ _ c.self.invariant in
    let view = ap (λ (s : Search). length (board_of s).nodes) c.self.view_is in
    cc
