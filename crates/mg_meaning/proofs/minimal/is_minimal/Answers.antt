use Rattle.std.proofs.Common.{◌≡◌, All, true, subst, ◌∙◌, arith}
use Rattle.mg_meaning.specs.Parts.{IsSmaller}
use Rattle.mg_meaning.proofs.PartsTried.{minimal_test}
use Rattle.mg_meaning.proofs.minimal.is_minimal.Goals as goal

pub returns : goal.returns
returns c =
    let yes_it_does : c.in_ok-is_satisfying.field-0 ≡ true = grind (arith, c.if-not-branch.false) in
    minimal_test c.args.problem.now c.args.set.now c.in_ok-smaller.smaller (c.in_ok-is_satisfying.ensures.0 yes_it_does) c.in_ok-smaller.ensures.found
    (λ e. subst (All (λ part. IsSmaller c.args.problem.now c.args.set.now part → ⊥)) (c.as_slice.ensures.value ∙ c.in_ok-parts.ensures) (c.in_ok-smaller.ensures.none e))
