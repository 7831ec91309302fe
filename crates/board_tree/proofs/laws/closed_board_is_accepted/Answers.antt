use Rattle.board_tree.proofs.Accepting.{closed_is_accepted}
use Rattle.board_tree.proofs.laws.closed_board_is_accepted.Goals as goal

pub returns : goal.returns
returns c = closed_is_accepted
