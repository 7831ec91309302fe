use Rattle.std.proofs.Common.{List, length, option_map, slice_get, sym, ap, ◌∙◌, arith}
use Rattle.tree_board.specs.declared.cell.Cell.{Cell}
use Rattle.tree_board.specs.CellStanding.{is_open_yet}
use Rattle.tree_board.specs.NodeStates.{is_open}
use Rattle.tree_board.specs.Nodes.{Node}
use Rattle.tree_board.specs.Searches.{Search, board_of}
use Rattle.tree_board.proofs.Kept.{nodes_kept}
use Rattle.tree_board.proofs.Pushing.{open_kept}
use Rattle.tree_board.proofs.board.Board.is_open.Goals as goal

pub is_open_at-requires : goal.is_open_at-requires
is_open_at-requires c =
    let kept = nodes_kept _ _ _ _ _ _ c.self.invariant in
    let view = ap (λ (s : Search). length (board_of s).nodes) c.self.view_is in
    let size = ap length c.as_slice.ensures.value in
    omega (arith, kept, view, size)

pub returns : goal.returns
returns c =
    sym (ap (λ (s : Search). option_map (λ (node : Node). is_open node.state) (slice_get (board_of s).nodes c.args.node)) c.self.view_is)
    ∙ (sym (open_kept _ _ _ _ _ _ c.self.invariant c.args.node)
    ∙ (sym (ap (λ (list : List Cell). option_map (λ (cell : Cell). is_open_yet cell.settled) (slice_get list c.args.node)) c.as_slice.ensures.value)
    ∙ c.is_open_at.ensures))
