use Rattle.std.proofs.Common.{arith}
use Rattle.minimal_test.proofs.PlaceSteps.{places_more}
use Rattle.minimal_test.proofs.places.places_of.Goals as goal

pub loop-lit-preserved : goal.loop-lit-preserved
loop-lit-preserved c =
    places_more c.args.set.now c.args.lits.now c.loop-lit.lit-index c.lit-item.result c.place_of.result c.loop-lit.places.items c.push_some.new.places.items (omega arith) c.lit-item.is c.place_of.ensures c.loop-lit.invariant c.in_ok-push_some.ensures
