use Rattle.mg_meaning.proofs.ClauseTruth.{covering_none_refutes}
use Rattle.mg_meaning.proofs.laws.covering_none_refutes.Goals as goal

pub returns : goal.returns
returns c = covering_none_refutes
