use Rattle.model_lister.proofs.Ends.{one_listing}
use Rattle.model_lister.proofs.laws.one_listing.Goals as goal

pub returns : goal.returns
returns c = one_listing
