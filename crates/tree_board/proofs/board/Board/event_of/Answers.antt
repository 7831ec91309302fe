use Rattle.std.proofs.Common.{ap, subst, sym, ◌∙◌}
use Rattle.model_extend.specs.Steps.{IsRight, StepData}
use Rattle.tree_board.specs.Claims.{event_found}
use Rattle.tree_board.specs.Lawful.{IsLawful}
use Rattle.tree_board.specs.Searches.{board_of, setting_of}
use Rattle.tree_board.proofs.Claiming.{found_lawful}
use Rattle.tree_board.proofs.board.Board.event_of.Goals as goal

pub returns-clause-lawful : goal.returns-clause-lawful
returns-clause-lawful c =
    let right = subst (λ (one : StepData). IsRight one.problem one.lits one.weight one.found) c.step.view_is c.step.invariant in
    subst (IsLawful (setting_of c.args.self.now) (board_of c.args.self.now)) (sym (c.event_found.ensures ∙ ap (λ (one : StepData). event_found c.args.node one.found) c.step.view_is))
    (found_lawful c.args.self.now c.args.node _ _ c.args.step c.requires.opened c.requires.untouched c.requires.own right c.requires.room)
