use Rattle.std.proofs.Common.{subst}
use Rattle.std.specs.Prelude.{IfOk}
use Rattle.model_lister.specs.Listings.{IsListing}
use Rattle.command_line.proofs.models.list.Goals as goal

pub returns : goal.returns
returns c = subst (λ problem. IfOk c.list_models.result (IsListing problem c.args.limits)) c.in_ok-problem.ensures.ok c.list_models.ensures
