use Rattle.std.proofs.Common.{ap}
use Rattle.tree_board.specs.Readers.{own_number}
use Rattle.tree_board.specs.Searches.{Search, board_of}
use Rattle.tree_board.proofs.Kept.{own_kept}
use Rattle.tree_board.proofs.board.Board.own_lemma.Goals as goal

pub returns : goal.returns
returns c =
    let kept = own_kept _ _ _ _ _ _ c.self.invariant c.args.node in
    let view = ap (λ (s : Search). own_number (board_of s).kept c.args.node) c.self.view_is in
    cc
