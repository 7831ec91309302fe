use Rattle.std.proofs.Common.{◌∷◌, [], IsTrue, List, ap, subst, ◌∙◌}
use Rattle.mg_word.specs.Facts.{ProblemData}
use Rattle.mg_word.specs.Table.{Symbol}
use Rattle.mg_word.specs.Words.{fits}
use Rattle.search_trials.proofs.branches.pushed.Goals as goal

pub push_both-requires-clause-second : goal.push_both-requires-clause-second
push_both-requires-clause-second c =
    let same = ap (λ (problem : ProblemData). problem.symbols) c.behind-problem.view_is ∙ ap (λ (problem : ProblemData). problem.symbols) c.deref.ensures in
    rw (c.in_ok-branch.ensures, c.in_ok-second.ensures) (subst (λ (symbols : List Symbol). IsTrue (fits symbols (2 ∷ 1 ∷ 0 ∷ []))) same c.if-not-are_as_said.ensures.second)
