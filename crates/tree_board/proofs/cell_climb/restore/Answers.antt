use Rattle.std.proofs.Common.{◌∙◌}
use Rattle.tree_board.proofs.Restores.{put_back_last}
use Rattle.tree_board.proofs.cell_climb.restore.Goals as goal

pub back-preserved : goal.back-preserved
back-preserved c = put_back_last _ _ _ c.in-Some.ensures.items _ _ c.put_back.ensures ∙ c.back.invariant
