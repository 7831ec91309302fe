use Rattle.std.proofs.Common.{ap, option_map, slice_get}
use Rattle.tree_board.specs.Kinds.{kind_of}
use Rattle.tree_board.specs.Searches.{Search, board_of}
use Rattle.tree_board.proofs.Shown.{kind_kept}
use Rattle.tree_board.proofs.board.Board.node_state.Goals as goal

pub returns : goal.returns
returns c =
    let kept = kind_kept _ _ _ _ _ _ c.self.invariant c.args.node in
    let view = ap (λ (s : Search). option_map kind_of (slice_get (board_of s).nodes c.args.node)) c.self.view_is in
    cc
