use Rattle.mg_meaning.proofs.Excluded.{rejecting_excludes, clashing_excludes, barring_excludes}
use Rattle.mg_meaning.proofs.laws.leaf_pair_excludes.Goals as goal

pub returns : goal.returns
returns c = record { rejection = rejecting_excludes; clash = clashing_excludes; bar = barring_excludes }
