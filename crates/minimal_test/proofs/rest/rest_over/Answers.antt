use Rattle.std.proofs.Common.{ℕ, List, ◌+◌, ◌++◌, arith, subst}
use Rattle.std.proofs.lemmas.List.{take_all}
use Rattle.minimal_test.specs.Rests.{IsRest}
use Rattle.minimal_test.proofs.RestSteps.{rest_more, free_ends}
use Rattle.minimal_test.proofs.rest.rest_over.Goals as goal

pub returns-in-Free-clause-left : goal.returns-in-Free-clause-left
returns-in-Free-clause-left c = λ before is.
    free_ends c.args.sides.now c.args.is_in before c.args.places.now (c.loop-at.at + 1) c.next_rest-left.result c.in-Free.is
    (rest_more c.args.sides.now c.args.is_in before c.args.places.now c.loop-at.at c.loop-at.left c.next_rest-left.result c.side_at.result (omega arith) c.side_at.ensures c.next_rest-left.ensures (c.loop-at.invariant before is))

pub loop-at-preserved : goal.loop-at-preserved
loop-at-preserved c = λ before is.
    rest_more c.args.sides.now c.args.is_in before c.args.places.now c.loop-at.at c.loop-at.left c.next_rest-left.result c.side_at.result (omega arith) c.side_at.ensures c.next_rest-left.ensures (c.loop-at.invariant before is)

pub returns-clause-left : goal.returns-clause-left
returns-clause-left c = λ before is.
    subst (λ (some : List ℕ). IsRest c.args.sides.now c.args.is_in (before ++ some) c.loop-at.left) (take_all c.loop-at.at c.args.places.now (omega (arith, c.loop-at-test.false, c.loop-at.auto.at-end))) (c.loop-at.invariant before is)
