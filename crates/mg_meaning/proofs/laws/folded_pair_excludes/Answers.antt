use Rattle.mg_meaning.proofs.Excluded.{folded_excludes}
use Rattle.mg_meaning.proofs.laws.folded_pair_excludes.Goals as goal

pub returns : goal.returns
returns c = folded_excludes
