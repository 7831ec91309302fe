use Rattle.std.proofs.Common.{rules}
use Rattle.tree_board.proofs.LeafSets.{sorted_by_sets}
use Rattle.tree_board.proofs.leaves.sort_sets.Goals as goal

pub returns-clause-sorted : goal.returns-clause-sorted
returns-clause-sorted c = sorted_by_sets _ c.sort_unstable_by.ensures.sorted (λ a r q k. search rules)
