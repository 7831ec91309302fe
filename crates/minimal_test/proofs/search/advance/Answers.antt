use Rattle.std.proofs.Common.{IsTrue, subst}
use Rattle.minimal_test.specs.Findings.{has_conflict, AreClosed}
use Rattle.minimal_test.specs.Rounds.{IsFlipped}
use Rattle.minimal_test.proofs.RoundSteps.{round_found, round_tried, round_within, round_flipped, round_exhausted, match_true, match_false}
use Rattle.minimal_test.proofs.search.advance.Goals as goal

pub returns-in_default : goal.returns-in_default
returns-in_default c =
    let closed : AreClosed c.propagate.new.path.sides.items c.args.rules.now = match_true _ _ c.in_ok-propagate.field-0 c.if-branch.true c.in_ok-propagate.ensures.closed in
    round_found c.args.rules.now c.args.path.now c.propagate.new.path c.as_slice.result.now c.as_slice.ensures.value closed c.in_default.ensures.open_place

pub returns-then-branch : goal.returns-then-branch
returns-then-branch c =
    let closed : AreClosed c.propagate.new.path.sides.items c.args.rules.now = match_true _ _ c.in_ok-propagate.field-0 c.if-branch.true c.in_ok-propagate.ensures.closed in
    round_tried c.args.rules.now c.args.path.now c.propagate.new.path c.put.new.self c.as_slice.result.now c.in-Some.place c.in_ok-propagate.ensures.extends closed (c.in_ok-propagate.ensures.handed c.if-branch.true) c.as_slice.ensures.value c.in-Some.ensures.open_place
    c.in_ok-put.ensures.sides c.in_ok-put.ensures.trail c.in_ok-put.ensures.handed

pub flip-requires : goal.flip-requires
flip-requires c = let (start, reached, used) = c.requires in round_within c.args.rules.now c.args.path.now c.propagate.new.path (start, reached.leads) c.in_ok-propagate.ensures.extends

pub returns-then-branch-2 : goal.returns-then-branch-2
returns-then-branch-2 c =
    let conflict : IsTrue (has_conflict c.propagate.new.path.sides.items c.args.rules.now) = match_false _ _ c.in_ok-propagate.field-0 c.if-branch.false c.in_ok-propagate.ensures.closed in
    round_flipped c.args.rules.now c.args.path.now c.propagate.new.path c.flip.new.self c.in_ok-propagate.ensures.extends conflict
    (λ some start leads dead. subst (IsFlipped some start c.propagate.new.path c.flip.new.self) c.if-branch-2.true (c.in_ok-flip.ensures some start leads dead))

pub returns-else-branch-2 : goal.returns-else-branch-2
returns-else-branch-2 c =
    let conflict : IsTrue (has_conflict c.propagate.new.path.sides.items c.args.rules.now) = match_false _ _ c.in_ok-propagate.field-0 c.if-branch.false c.in_ok-propagate.ensures.closed in
    round_exhausted c.args.rules.now c.args.path.now c.propagate.new.path c.flip.new.self c.in_ok-propagate.ensures.extends conflict
    (λ some start leads dead. subst (IsFlipped some start c.propagate.new.path c.flip.new.self) c.if-branch-2.false (c.in_ok-flip.ensures some start leads dead))
