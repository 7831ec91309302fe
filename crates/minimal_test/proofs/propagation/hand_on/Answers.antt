use Rattle.std.proofs.Common.{arith, get_or, refl, ◌∙◌}
use Rattle.minimal_test.specs.Settled.{IsLooked}
use Rattle.minimal_test.proofs.PathSteps.{extends_more}
use Rattle.minimal_test.proofs.RoundSteps.{match_true}
use Rattle.minimal_test.proofs.SettleSteps.{awaited_at}
use Rattle.minimal_test.proofs.propagation.hand_on.Goals as goal

pub loop-number-preserved : goal.loop-number-preserved
loop-number-preserved c =
    let number = get_or c.args.numbers.now c.loop-number.number-index 0 in
    let looked : IsLooked c.args.rules.now number c.loop-number.path c.look_at.new.path = match_true _ _ c.in_ok-look_at.field-0 c.if-not-branch.false c.in_ok-look_at.ensures.looked in
    record {
      extends = extends_more c.args.rules.now c.args.path.now c.loop-number.path c.look_at.new.path c.loop-number.invariant.extends c.in_ok-look_at.ensures.extends;
      handed = looked.handed;
      cursor = looked.cursor ∙ c.loop-number.invariant.cursor;
      awaited = awaited_at c.args.rules.now c.loop-number.number-index number c.args.numbers.now c.loop-number.path c.look_at.new.path (omega arith) refl looked c.loop-number.invariant.awaited;
    }
