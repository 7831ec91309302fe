use Rattle.std.proofs.Common.{◌≡◌, List, ap, ap₂, slice_get, slice_set, subst, sym, ◌∙◌}
use Rattle.tree_board.specs.declared.cell.Cell.{Cell}
use Rattle.tree_board.specs.CellClimbs.{Climbs}
use Rattle.tree_board.specs.CellMoves.{settled_cell}
use Rattle.tree_board.proofs.Places.{same_some}
use Rattle.tree_board.proofs.Restores.{get_first, grown_back, on_err, on_ok}
use Rattle.tree_board.proofs.cell_growth.grow.Goals as goal

pub returns-then-is_err-clause-cells_err : goal.returns-then-is_err-clause-cells_err
returns-then-is_err-clause-cells_err c =
    grown_back _ _ _ _ _ _ _ _ _ _ _ c.in_ok-append.ensures.items c.settle-before.ensures.was c.settle-before.ensures.now (on_err _ _ (sym c.is_err.ensures.value ∙ c.if-is_err.true) c.climb.ensures.cells) c.replaced.ensures.now c.truncate.ensures.items
    (c.len-size.ensures ∙ c.args.cells.now.ok.0)

pub returns-clause-ok : goal.returns-clause-ok
returns-clause-ok c = λ cell at.
    let number = c.args.change.node in
    let same : c.settle-before.result ≡ cell =
    same_some c.settle-before.result cell (sym c.settle-before.ensures.was ∙ (ap (λ all. slice_get all number) c.in_ok-append.ensures.items ∙ (get_first c.args.cells.now.items c.args.change.children.cells.items number c.requires.there ∙ at))) in
    let cells = c.settle-before.ensures.now ∙ ap₂ (λ (all : List Cell) (one : Cell). slice_set all number (settled_cell c.args.change.settled c.args.change.lemma one)) c.in_ok-append.ensures.items same in
    subst (λ some. Climbs c.args.journal.now number some c.args.lemmas.now c.args.lemma_nodes.now.items c.climb.new.cells.items c.climb.new.lemmas c.climb.new.lemma_nodes.items) cells (on_ok _ _ (sym c.is_err.ensures.value ∙ c.if-is_err.false) c.climb.ensures.ok)
