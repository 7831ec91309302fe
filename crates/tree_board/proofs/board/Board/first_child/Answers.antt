use Rattle.std.proofs.Common.{ap}
use Rattle.tree_board.specs.Readers.{first_child_of, shown}
use Rattle.tree_board.specs.Searches.{Search, board_of}
use Rattle.tree_board.proofs.Shown.{first_child_kept}
use Rattle.tree_board.proofs.board.Board.first_child.Goals as goal

pub returns : goal.returns
returns c =
    let kept = first_child_kept _ _ _ _ _ _ c.self.invariant c.args.node in
    let view = ap (λ (s : Search). shown first_child_of (board_of s).nodes c.args.node) c.self.view_is in
    cc
