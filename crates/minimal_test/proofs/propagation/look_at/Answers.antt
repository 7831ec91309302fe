use Rattle.std.proofs.Common.{arith}
use Rattle.minimal_test.proofs.SettleSteps.{forced_extends, forced_looked}
use Rattle.minimal_test.proofs.propagation.look_at.Goals as goal

pub returns-in_ok-put-in-Forced-clause-extends : goal.returns-in_ok-put-in-Forced-clause-extends
returns-in_ok-put-in-Forced-clause-extends c =
    forced_extends c.args.rules.now c.args.number c.args.path.now c.put.new.self c.index-rules-number.result c.as_slice.result.now c.in-Forced.place c.in-Forced.is_in (omega arith) c.index-rules-number.is c.as_slice.ensures.value c.in-Forced.ensures
    c.in_ok-put-in-Forced.ensures.sides c.in_ok-put-in-Forced.ensures.trail

pub returns-in_ok-put-in-Forced-clause-looked : goal.returns-in_ok-put-in-Forced-clause-looked
returns-in_ok-put-in-Forced-clause-looked c =
    forced_looked c.args.rules.now c.args.number c.args.path.now c.put.new.self c.index-rules-number.result c.as_slice.result.now c.in-Forced.place c.in-Forced.is_in c.requires c.index-rules-number.is c.as_slice.ensures.value c.in-Forced.ensures
    c.in_ok-put-in-Forced.ensures.sides c.in_ok-put-in-Forced.ensures.trail c.in_ok-put-in-Forced.ensures.handed
