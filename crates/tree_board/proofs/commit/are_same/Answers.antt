use Rattle.std.proofs.Common.{ap, ◌∙◌}
use Rattle.std.specs.Ordering.{is_eq}
use Rattle.tree_board.proofs.Claiming.{same_exactly}
use Rattle.tree_board.proofs.commit.are_same.Goals as goal

pub returns : goal.returns
returns c = same_exactly _ _ _ (c.is_eq.ensures ∙ ap is_eq c.lits_cmp.ensures)
