use Rattle.std.proofs.Common.{Ok, Err, sym}
use Rattle.minimal_test.proofs.PlaceSteps.{place_searched}
use Rattle.minimal_test.proofs.places.place_of.Goals as goal

pub returns-in-Ok : goal.returns-in-Ok
returns-in-Ok c = sym (place_searched c.args.set.now c.args.lit.now (Ok c.in-Ok.place) c.requires c.in-Ok.ensures.bound c.in-Ok.ensures.position)

pub returns-in-Err : goal.returns-in-Err
returns-in-Err c = sym (place_searched c.args.set.now c.args.lit.now (Err c.in-Err.field-0) c.requires c.in-Err.ensures.bound c.in-Err.ensures.position)
