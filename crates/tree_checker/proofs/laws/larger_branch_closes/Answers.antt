use Rattle.tree_checker.proofs.OwnBranches.{larger_closes}
use Rattle.tree_checker.proofs.laws.larger_branch_closes.Goals as goal

pub returns : goal.returns
returns c = larger_closes
