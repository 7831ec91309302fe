use Rattle.mg_meaning.proofs.Decided.{minimal_below}
use Rattle.mg_meaning.proofs.laws.satisfying_includes_minimal.Goals as goal

pub returns : goal.returns
returns c = minimal_below
