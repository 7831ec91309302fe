use Rattle.std.proofs.Common.{ap}
use Rattle.tree_board.specs.Readers.{lemma_by, shown}
use Rattle.tree_board.specs.Searches.{Search, board_of}
use Rattle.tree_board.proofs.Shown.{lemma_by_kept}
use Rattle.tree_board.proofs.board.Board.settled_by.Goals as goal

pub returns : goal.returns
returns c =
    let kept = lemma_by_kept _ _ _ _ _ _ c.self.invariant c.args.node in
    let view = ap (λ (s : Search). shown lemma_by (board_of s).nodes c.args.node) c.self.view_is in
    cc
