use Rattle.std.proofs.Common.{ap}
use Rattle.tree_board.specs.Boards.{pair_at}
use Rattle.tree_board.specs.Searches.{Search, board_of}
use Rattle.tree_board.proofs.Kept.{lemma_kept}
use Rattle.tree_board.proofs.board.Board.lemma.Goals as goal

pub returns : goal.returns
returns c =
    let kept = lemma_kept _ _ _ _ _ _ c.self.invariant c.args.number in
    let view = ap (λ (s : Search). pair_at (board_of s).kept c.args.number) c.self.view_is in
    cc
