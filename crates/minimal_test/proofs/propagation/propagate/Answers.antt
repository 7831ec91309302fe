use Rattle.std.proofs.Common.{true, subst}
use Rattle.minimal_test.specs.Settled.{IsHandedOn}
use Rattle.minimal_test.proofs.PathSteps.{extends_more}
use Rattle.minimal_test.proofs.SettleSteps.{awaited_next, extends_next, reached_next, reached_fewer}
use Rattle.minimal_test.proofs.propagation.propagate.Goals as goal

pub hand_on-requires-clause-awaited : goal.hand_on-requires-clause-awaited
hand_on-requires-clause-awaited c =
    let (start, reached, used) = c.loop-place.invariant.reached in
    rw c.at.ensures (awaited_next c.args.rules.now c.args.uses.now start c.loop-place.path c.next_place.new.self c.in-Some.place reached used c.in-Some.ensures)

pub loop-place-smaller : goal.loop-place-smaller
loop-place-smaller c =
    let (start, reached, used) = c.loop-place.invariant.reached in
    let on : IsHandedOn c.args.rules.now c.next_place.new.self c.hand_on.new.path true = subst (IsHandedOn c.args.rules.now c.next_place.new.self c.hand_on.new.path) c.if-not-branch.false c.in_ok-hand_on.ensures.handed_on in
    reached_fewer c.args.rules.now start c.loop-place.path c.next_place.new.self c.hand_on.new.path c.in-Some.place reached c.in-Some.ensures c.in_ok-hand_on.ensures.extends on

pub loop-place-preserved : goal.loop-place-preserved
loop-place-preserved c =
    let (start, reached, used) = c.loop-place.invariant.reached in
    let on : IsHandedOn c.args.rules.now c.next_place.new.self c.hand_on.new.path true = subst (IsHandedOn c.args.rules.now c.next_place.new.self c.hand_on.new.path) c.if-not-branch.false c.in_ok-hand_on.ensures.handed_on in
    record {
      extends = extends_more c.args.rules.now c.args.path.now c.loop-place.path c.hand_on.new.path c.loop-place.invariant.extends
          (extends_more c.args.rules.now c.loop-place.path c.next_place.new.self c.hand_on.new.path (extends_next c.args.rules.now c.loop-place.path c.next_place.new.self c.in-Some.place c.in-Some.ensures) c.in_ok-hand_on.ensures.extends);
      reached = (start, reached_next c.args.rules.now start c.loop-place.path c.next_place.new.self c.hand_on.new.path c.in-Some.place reached c.in-Some.ensures c.in_ok-hand_on.ensures.extends on, used);
    }
