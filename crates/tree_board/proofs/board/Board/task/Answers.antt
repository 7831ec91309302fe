use Rattle.std.proofs.Common.{ap, refl, subst, ◌∙◌}
use Rattle.tree_board.specs.Keeping.{IsKeeping}
use Rattle.tree_board.specs.Searches.{Search}
use Rattle.tree_board.proofs.Claiming.{task_is}
use Rattle.tree_board.proofs.board.Board.task.Goals as goal

pub returns : goal.returns
returns c = (
  task_is _ _ _ _ _ _ (subst (λ one. IsKeeping one c.self.inside.cells.items c.self.inside.closures.items c.self.inside.lemmas c.self.inside.lemma_nodes.items c.self.inside.tally) c.self.view_is c.self.invariant) _ _ _ c.requires.opened c.requires.untouched _ (c.in_ok-problem.ensures.cases ∙ ap (λ (one : Search). one.problem) c.self.view_is) _ (ap (λ (one : Search). one.limits.weight) c.self.view_is) _ c.new-lits.ensures,
  refl,
)
