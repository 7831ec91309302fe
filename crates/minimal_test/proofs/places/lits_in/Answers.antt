use Rattle.std.proofs.Common.{◌∙◌, arith}
use Rattle.minimal_test.proofs.PlaceSteps.{taken_more}
use Rattle.minimal_test.proofs.places.lits_in.Goals as goal

pub loop-place-preserved : goal.loop-place-preserved
loop-place-preserved c =
    taken_more c.args.sides.now c.args.set.now c.loop-place.lits.items c.push_in.new.lits.items c.loop-place.place c.index-set-place.result c.side_at.result (omega arith) c.index-set-place.is c.side_at.ensures c.in_ok-push_in.ensures ∙ c.loop-place.invariant
