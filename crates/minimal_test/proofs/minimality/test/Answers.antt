use Rattle.std.proofs.Common.{◌≡◌, subst, ap, ◌∙◌}
use Rattle.mg_word.specs.Facts.{ProblemData, IsProblem}
use Rattle.minimal_test.specs.Choices.{keeps}
use Rattle.minimal_test.specs.Places.{rules_of}
use Rattle.minimal_test.proofs.HeldRules.{right_of}
use Rattle.minimal_test.proofs.minimality.test.Goals as goal

pub returns : goal.returns
returns c =
    let real : IsProblem c.args.problem.now = subst IsProblem c.problem.view_is c.problem.invariant in
    let listed : c.in_ok-rules.rules.items ≡ rules_of c.args.problem.now.symbols c.args.problem.now.forms c.args.set.now =
    subst (λ (problem : ProblemData). c.in_ok-rules.rules.items ≡ rules_of problem.symbols problem.forms c.args.set.now) c.problem.view_is
    (c.in_ok-rules.ensures ∙ ap (λ forms. rules_of c.problem.inside.symbols forms c.args.set.now) c.as_slice.ensures) in
    right_of c.args.problem.now c.args.set.now c.as_slice-2.result.now c.verdict_of.result real (λ chosen. ap (keeps chosen) (c.as_slice-2.ensures.value ∙ listed)) c.verdict_of.ensures
