use Rattle.std.proofs.Common.{ap, arith, length, option_map, slice_get, subst, sym, ◌∙◌, ◌<◌, Some, List}
use Rattle.mg_word.specs.Sets.{is_proper_part}
use Rattle.tree_board.specs.declared.cell.Cell.{Cell}
use Rattle.tree_board.specs.CellStanding.{is_found_set}
use Rattle.tree_board.specs.Keeping.{IsKeeping}
use Rattle.tree_board.specs.Searches.{board_of}
use Rattle.tree_board.proofs.Kept.{nodes_kept}
use Rattle.tree_board.proofs.QuickSettling.{found_covers, unfound_covers_none}
use Rattle.tree_board.proofs.board.Board.covers.Goals as goal

pub is_found_at-requires : goal.is_found_at-requires
is_found_at-requires c =
    let sizes = nodes_kept _ _ _ _ _ _ (subst (λ one. IsKeeping one c.self.inside.cells.items c.self.inside.closures.items c.self.inside.lemmas c.self.inside.lemma_nodes.items c.self.inside.tally) c.self.view_is c.self.invariant) in
    let shown = ap length c.as_slice.ensures.value in
    let inside : c.args.node < length (board_of c.args.self.now).nodes = c.requires in
    omega (arith, sizes, shown, inside)

pub returns-then-not-is_found_at : goal.returns-then-not-is_found_at
returns-then-not-is_found_at c =
    unfound_covers_none _ _ _ _ _ _ (subst (λ one. IsKeeping one c.self.inside.cells.items c.self.inside.closures.items c.self.inside.lemmas c.self.inside.lemma_nodes.items c.self.inside.tally) c.self.view_is c.self.invariant) _ c.requires _
    (ap (λ (cells : List Cell). option_map (λ (cell : Cell). is_found_set cell.settled) (slice_get cells c.args.node)) (sym c.as_slice.ensures.value) ∙ (c.is_found_at.ensures ∙ ap Some c.if-not-is_found_at.true))

pub returns : goal.returns
returns c =
    found_covers _ _ _ _ _ _ (subst (λ one. IsKeeping one c.self.inside.cells.items c.self.inside.closures.items c.self.inside.lemmas c.self.inside.lemma_nodes.items c.self.inside.tally) c.self.view_is c.self.invariant) _ c.requires _
    (ap (λ (cells : List Cell). option_map (λ (cell : Cell). is_found_set cell.settled) (slice_get cells c.args.node)) (sym c.as_slice.ensures.value) ∙ (c.is_found_at.ensures ∙ ap Some c.if-not-is_found_at.false))
    _ c.in_ok-set.ensures
    ∙ ap Some (ap (λ held. is_proper_part held c.args.lits.now) (sym c.as_slice-2.ensures.value) ∙ sym c.is_proper.ensures)
