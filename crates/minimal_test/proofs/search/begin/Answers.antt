use Rattle.std.proofs.Common.{IsTrue, true, subst}
use Rattle.minimal_test.specs.Findings.{has_conflict}
use Rattle.minimal_test.specs.Settled.{IsHandedOn}
use Rattle.minimal_test.proofs.RoundSteps.{round_within, begun_settled, begun_flipped, if_ok_more}
use Rattle.minimal_test.proofs.search.begin.Goals as goal

pub flip-requires : goal.flip-requires
flip-requires c = round_within c.args.rules.now c.args.path.now c.settle_all.new.path c.requires.reached c.in_ok-settle_all.ensures.extends

pub returns-then-branch : goal.returns-then-branch
returns-then-branch c = λ start leads.
    let on : IsHandedOn c.args.rules.now c.args.path.now c.settle_all.new.path true = subst (IsHandedOn c.args.rules.now c.args.path.now c.settle_all.new.path) c.if-branch.true c.in_ok-settle_all.ensures.handed_on in
    begun_settled c.args.rules.now c.args.path.now c.settle_all.new.path start c.in_ok-settle_all.ensures.extends on leads

pub returns : goal.returns
returns c =
    let conflict : IsTrue (has_conflict c.settle_all.new.path.sides.items c.args.rules.now) = subst (IsHandedOn c.args.rules.now c.args.path.now c.settle_all.new.path) c.if-branch.false c.in_ok-settle_all.ensures.handed_on in
    if_ok_more _ _ c.flip.result (λ flipped back start leads. begun_flipped c.args.rules.now c.args.path.now c.settle_all.new.path c.flip.new.self start flipped c.in_ok-settle_all.ensures.extends conflict back leads) c.flip.ensures
