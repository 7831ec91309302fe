use Rattle.std.proofs.Common.{arith}
use Rattle.mg_word.specs.Sets.{same_lit}
use Rattle.minimal_test.proofs.Holdings.{common_more, not_not}
use Rattle.minimal_test.proofs.holding.common_front.Goals as goal

pub loop-front-preserved : goal.loop-front-preserved
loop-front-preserved c = record {
  within = omega arith;
  common = common_more c.args.these.now c.args.those.now c.loop-front.front c.index-these-front.result c.index-those-front.result (omega arith) (omega arith) c.index-these-front.is c.index-those-front.is
      (not_not (same_lit c.index-these-front.result c.index-those-front.result) c.if-ne.ensures) c.loop-front.invariant.common;
}
