use Rattle.mg_meaning.proofs.Excluded.{covers_satisfying}
use Rattle.mg_meaning.proofs.laws.instances_cover.Goals as goal

pub returns : goal.returns
returns c = covers_satisfying
