use Rattle.std.proofs.Common.{ap}
use Rattle.tree_board.specs.Readers.{lemma_node_at}
use Rattle.tree_board.specs.Searches.{Search, board_of}
use Rattle.tree_board.proofs.Kept.{lemma_node_kept}
use Rattle.tree_board.proofs.board.Board.lemma_node.Goals as goal

pub returns : goal.returns
returns c =
    let kept = lemma_node_kept _ _ _ _ _ _ c.self.invariant c.args.number in
    let view = ap (λ (s : Search). lemma_node_at (board_of s).kept c.args.number) c.self.view_is in
    cc
