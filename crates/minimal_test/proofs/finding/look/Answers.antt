use Rattle.std.proofs.Common.{true, false, ℕ, List, subst}
use Rattle.minimal_test.specs.Rests.{IsRest}
use Rattle.minimal_test.proofs.RestSteps.{found}
use Rattle.minimal_test.proofs.finding.look.Goals as goal

pub returns : goal.returns
returns c =
    let rule = c.args.rule.now in
    let sides = c.args.sides.now in
    rw c.finding_of.ensures (found sides rule c.rest_of-premises.result c.rest_of-conclusions.result
    (subst (λ (places : List ℕ). IsRest sides true places c.rest_of-premises.result) c.as_slice.ensures c.rest_of-premises.ensures)
    (subst (λ (places : List ℕ). IsRest sides false places c.rest_of-conclusions.result) c.as_slice-2.ensures c.rest_of-conclusions.ensures))
