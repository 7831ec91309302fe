use Rattle.std.proofs.Common.{◌∙◌}
use Rattle.minimal_test.specs.Settled.{IsLooked}
use Rattle.minimal_test.proofs.PathSteps.{extends_more}
use Rattle.minimal_test.proofs.RoundSteps.{match_true}
use Rattle.minimal_test.proofs.SettleSteps.{settled_next}
use Rattle.minimal_test.proofs.propagation.settle_all.Goals as goal

pub loop-number-preserved : goal.loop-number-preserved
loop-number-preserved c =
    let looked : IsLooked c.args.rules.now c.loop-number.number c.loop-number.path c.look_at.new.path = match_true _ _ c.in_ok-look_at.field-0 c.if-not-branch.false c.in_ok-look_at.ensures.looked in
    record {
      extends = extends_more c.args.rules.now c.args.path.now c.loop-number.path c.look_at.new.path c.loop-number.invariant.extends c.in_ok-look_at.ensures.extends;
      handed = looked.handed;
      cursor = looked.cursor ∙ c.loop-number.invariant.cursor;
      settled = settled_next c.args.rules.now c.loop-number.number c.loop-number.path c.look_at.new.path looked c.loop-number.invariant.settled;
    }
