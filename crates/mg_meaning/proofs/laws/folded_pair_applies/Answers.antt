use Rattle.mg_meaning.proofs.FoldApplied.{folded_applies}
use Rattle.mg_meaning.proofs.laws.folded_pair_applies.Goals as goal

pub returns : goal.returns
returns c = folded_applies
