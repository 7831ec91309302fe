use Rattle.board_tree.proofs.Forming.{closed_is_well_formed}
use Rattle.board_tree.proofs.laws.closed_board_is_well_formed.Goals as goal

pub returns : goal.returns
returns c = closed_is_well_formed
