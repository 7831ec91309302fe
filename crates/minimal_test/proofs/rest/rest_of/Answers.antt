use Rattle.std.proofs.Common.{[], refl}
use Rattle.minimal_test.specs.Rests.{IsRest}
use Rattle.minimal_test.proofs.RestSteps.{free_round, rest_round}
use Rattle.minimal_test.proofs.rest.rest_of.Goals as goal

pub returns-in-Free : goal.returns-in-Free
returns-in-Free c =
    free_round c.args.sides.now c.args.is_in c.args.places.now c.min-middle.result c.rest_over-rest.result.0 c.in-Free.is (c.rest_over-rest.ensures.left [] refl)

pub returns : goal.returns
returns c =
    rest_round c.args.sides.now c.args.is_in c.args.places.now c.min-middle.result c.rest_over-rest-2.result.0 (c.rest_over-rest-2.ensures.left _ (c.rest_over-rest.ensures.left [] refl))
