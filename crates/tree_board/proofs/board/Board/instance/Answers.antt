use Rattle.std.proofs.Common.{List, ap, ap₂, slice_get, ◌∙◌}
use Rattle.std.specs.Prelude.{option_and_then}
use Rattle.tree_board.specs.declared.cell.Cell.{Cell}
use Rattle.tree_board.specs.declared.event.Event.{Event}
use Rattle.tree_board.specs.Readers.{cell_shows, event_of_cell, instance_in, instance_of, shown}
use Rattle.tree_board.specs.Searches.{Search, board_of}
use Rattle.tree_board.proofs.Shown.{instance_kept}
use Rattle.tree_board.proofs.board.Board.instance.Goals as goal

pub returns : goal.returns
returns c =
    c.instance_at.ensures
    ∙ (ap₂ (λ (cells : List Cell) (journal : List Event). option_and_then (λ event. option_and_then instance_in (slice_get journal event)) (cell_shows event_of_cell cells c.args.node)) c.as_slice.ensures.value c.as_slice-2.ensures.value
    ∙ (instance_kept _ _ _ _ _ _ c.self.invariant c.args.node
    ∙ ap (λ (s : Search). shown instance_of (board_of s).nodes c.args.node) c.self.view_is))
