use Rattle.mg_meaning.proofs.FoldApplied.{rejecting_applies, clashing_applies, barring_applies}
use Rattle.mg_meaning.proofs.laws.leaf_pair_applies.Goals as goal

pub returns : goal.returns
returns c = record { rejection = rejecting_applies; clash = clashing_applies; bar = barring_applies }
