use Rattle.std.proofs.Common.{sym, ◌∙◌}
use Rattle.tree_board.proofs.CellClimbing.{climbs_installed}
use Rattle.tree_board.proofs.Restores.{on_ok}
use Rattle.tree_board.proofs.cell_climb.climb.Goals as goal

pub returns-clause-ok : goal.returns-clause-ok
returns-clause-ok c =
    let went = on_ok _ _ (sym c.is_err.ensures.value ∙ c.if-is_err.false) c.go_up-outcome.ensures.ok in
    let lemmas = on_ok _ _ (sym c.is_err-else-is_err.ensures.value ∙ c.if-is_err-2.false) c.install.ensures.lemmas_ok in
    let nodes = on_ok _ _ (sym c.is_err-else-is_err.ensures.value ∙ c.if-is_err-2.false) c.install.ensures.nodes_ok in
    climbs_installed _ _ _ _ _ c.new-2.ensures.items _ c.new-3.ensures.items _ _ _ went _ _ (sym c.len-count.ensures) _ lemmas _ nodes
