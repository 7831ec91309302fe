use Rattle.mg_meaning.proofs.Answering.{opposite_test}
use Rattle.mg_meaning.proofs.satisfying.is_opposite.Goals as goal

pub returns : goal.returns
returns c = opposite_test c.args.held.now c.args.lit.now c.is_complement.result c.is_complement.ensures
