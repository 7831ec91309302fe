use Rattle.std.proofs.Common.{List, ap, false, slice_get, subst, ◌∙◌}
use Rattle.std.specs.Option.{option_map_or}
use Rattle.tree_board.specs.declared.cell.Cell.{Cell}
use Rattle.tree_board.specs.CellStanding.{is_open_yet}
use Rattle.tree_board.specs.Keeping.{IsKeeping}
use Rattle.tree_board.proofs.Claiming.{open_exactly}
use Rattle.tree_board.proofs.board.Board.has_open.Goals as goal

pub returns : goal.returns
returns c =
    open_exactly _ _ _ _ _ _ (subst (λ one. IsKeeping one c.self.inside.cells.items c.self.inside.closures.items c.self.inside.lemmas c.self.inside.lemma_nodes.items c.self.inside.tally) c.self.view_is c.self.invariant) _ _
    (c.is_open_in.ensures ∙ ap (λ (cells : List Cell). option_map_or (λ (cell : Cell). is_open_yet cell.settled) (slice_get cells c.args.node) false) c.as_slice.ensures.value)
