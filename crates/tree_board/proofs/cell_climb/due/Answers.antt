use Rattle.std.proofs.Common.{ap, length, option_map, sym, ◌∙◌}
use Rattle.tree_board.proofs.CellClosings.{lemmas_size}
use Rattle.tree_board.proofs.cell_climb.due.Goals as goal

pub fold-requires : goal.fold-requires
fold-requires c = ap length c.as_slice.ensures.value ∙ lemmas_size _ _ _ _ (sym c.in_ok-lemmas.ensures ∙ ap (option_map (λ all. all.items)) c.in-Some-2.is)
