use Rattle.std.proofs.Common.{List, Some, [], ◌++◌, ◌∷◌, ◌<◌, ap, ap₂, arith, length, option_map, slice_get, subst, sym, ◌∙◌}
use Rattle.std.proofs.lemmas.List.{append-nil}
use Rattle.tree_board.specs.declared.cell.Cell.{Cell}
use Rattle.tree_board.specs.CellStanding.{is_found_set}
use Rattle.tree_board.specs.Keeping.{IsKeeping}
use Rattle.tree_board.specs.Searches.{board_of}
use Rattle.tree_board.proofs.Kept.{nodes_kept}
use Rattle.tree_board.proofs.LeafSets.{no_set, one_set}
use Rattle.tree_board.proofs.board.Board.push_found.Goals as goal

pub is_found_at-requires : goal.is_found_at-requires
is_found_at-requires c =
    let sizes = nodes_kept _ _ _ _ _ _ (subst (λ one. IsKeeping one c.self.inside.cells.items c.self.inside.closures.items c.self.inside.lemmas c.self.inside.lemma_nodes.items c.self.inside.tally) c.self.view_is c.self.invariant) in
    let shown = ap length c.as_slice.ensures.value in
    let inside : c.args.node < length (board_of c.args.self.now).nodes = c.requires in
    omega (arith, sizes, shown, inside)

pub returns-then-not-is_found_at : goal.returns-then-not-is_found_at
returns-then-not-is_found_at c =
    let none = no_set _ _ _ _ _ _ (subst (λ one. IsKeeping one c.self.inside.cells.items c.self.inside.closures.items c.self.inside.lemmas c.self.inside.lemma_nodes.items c.self.inside.tally) c.self.view_is c.self.invariant) c.args.node c.requires
    (ap (λ (cells : List Cell). option_map (λ (cell : Cell). is_found_set cell.settled) (slice_get cells c.args.node)) (sym c.as_slice.ensures.value) ∙ (c.is_found_at.ensures ∙ ap Some c.if-not-is_found_at.true)) in
    sym (append-nil c.args.sets.now.items) ∙ ap (λ more. c.args.sets.now.items ++ more) (sym none)

pub returns : goal.returns
returns c =
    let one = one_set _ _ _ _ _ _ (subst (λ one. IsKeeping one c.self.inside.cells.items c.self.inside.closures.items c.self.inside.lemmas c.self.inside.lemma_nodes.items c.self.inside.tally) c.self.view_is c.self.invariant) c.args.node c.requires
    (ap (λ (cells : List Cell). option_map (λ (cell : Cell). is_found_set cell.settled) (slice_get cells c.args.node)) (sym c.as_slice.ensures.value) ∙ (c.is_found_at.ensures ∙ ap Some c.if-not-is_found_at.false))
    _ c.in_ok-lits.ensures in
    c.in_ok-push.ensures.items ∙ ap (λ more. c.args.sets.now.items ++ more) (ap (λ set. set ∷ []) c.in_ok-set.ensures ∙ sym one)
