use Rattle.std.proofs.Common.{◌∷◌, ◌++◌, [], ap, sym, ◌∙◌}
use Rattle.tree_board.proofs.CaseCells.{reasons_push}
use Rattle.tree_board.proofs.growing.reasons_of.Goals as goal

pub cases-preserved : goal.cases-preserved
cases-preserved c = c.in_ok-push.ensures.items ∙ (ap (λ some. some ++ c.in-Some.case.at_once ∷ []) c.cases.invariant ∙ sym (reasons_push c.cases.yielded c.in-Some.case))
