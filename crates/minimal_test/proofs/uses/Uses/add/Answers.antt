use Rattle.std.proofs.Common.{arith}
use Rattle.minimal_test.proofs.UseSteps.{grown_more, listed_more}
use Rattle.minimal_test.proofs.uses.Uses.add.Goals as goal

pub loop-place-preserved : goal.loop-place-preserved
loop-place-preserved c = record {
  grown = grown_more c.args.self.now.rules_at.items c.loop-place.self.rules_at.items c.add_at.new.self.rules_at.items c.loop-place.invariant.grown c.in_ok-add_at.ensures.grown;
  listed = listed_more c.args.places.now c.loop-place.place-index c.args.number c.loop-place.self.rules_at.items c.add_at.new.self.rules_at.items (omega arith) c.in_ok-add_at.ensures.grown c.loop-place.invariant.listed c.in_ok-add_at.ensures.listed;
}
