use Rattle.std.proofs.Common.{ap}
use Rattle.tree_board.specs.Readers.{closure_at, shown}
use Rattle.tree_board.specs.Searches.{Search, board_of}
use Rattle.tree_board.proofs.Shown.{closure_kept}
use Rattle.tree_board.proofs.board.Board.closed_at_once.Goals as goal

pub returns : goal.returns
returns c =
    let kept = closure_kept _ _ _ _ _ _ c.self.invariant c.args.node in
    let view = ap (λ (s : Search). shown closure_at (board_of s).nodes c.args.node) c.self.view_is in
    cc
