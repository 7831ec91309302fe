use Rattle.std.proofs.Common.{arith}
use Rattle.minimal_test.specs.declared.path.Path.{Path}
use Rattle.minimal_test.proofs.PathSteps.{turned, back_more, back_turned, back_none, within_fewer}
use Rattle.minimal_test.proofs.SettleSteps.{flip_reached}
use Rattle.minimal_test.proofs.path.Path.flip.Goals as goal

pub returns-then-step : goal.returns-then-step
returns-then-step c = λ rules start leads dead.
    let (led, owes, closed, open_place) = back_turned rules start c.args.self.now.trail.items c.loop-step.self.trail.items c.loop-step.self.sides.items c.undo.new.self.trail.items c.in-Some.step c.undo.new.self.sides.items
    (c.loop-step.invariant.back rules start leads dead) c.in-Some.ensures.trail c.in-Some.ensures.sides c.if-step.true
    c.put.new.self.trail.items c.put.new.self.sides.items c.in_ok-put.ensures.trail c.in_ok-put.ensures.sides in
    let mid : Path = record { sides = c.undo.new.self.sides; trail = c.undo.new.self.trail; handed = c.len-self.result } in
    (flip_reached rules start mid c.put.new.self (turned c.in-Some.step) closed open_place (omega arith) led c.in_ok-put.ensures.sides c.in_ok-put.ensures.trail c.in_ok-put.ensures.handed, owes)

pub loop-step-preserved : goal.loop-step-preserved
loop-step-preserved c = record {
  within = within_fewer c.loop-step.self.trail.items c.undo.new.self.trail.items c.in-Some.step c.loop-step.self.sides.items c.undo.new.self.sides.items c.in-Some.ensures.trail c.in-Some.ensures.sides c.loop-step.invariant.within;
  back = λ rules start leads dead.
      back_more rules start c.args.self.now.trail.items c.loop-step.self.trail.items c.loop-step.self.sides.items c.undo.new.self.trail.items c.in-Some.step c.undo.new.self.sides.items
      (c.loop-step.invariant.back rules start leads dead) c.in-Some.ensures.trail c.in-Some.ensures.sides c.if-step.false;
}

pub returns : goal.returns
returns c = λ rules start leads dead.
    back_none rules start c.args.self.now.trail.items c.loop-step.self.trail.items c.loop-step.self.sides.items (c.loop-step.invariant.back rules start leads dead) c.in_default.ensures.trail.0
