use Rattle.tree_board.specs.Searches.{board_of}
use Rattle.tree_board.proofs.Ways.{IsOnWay}
use Rattle.tree_board.proofs.board.Board.lits_at.Given as goal

abbrev pub invariant-up : goal.invariant-up
invariant-up l = IsOnWay (board_of l.self).nodes l.node l.at l.lits.items

abbrev pub decreases-up : goal.decreases-up
decreases-up l = l.at
