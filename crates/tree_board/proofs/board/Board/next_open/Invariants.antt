use Rattle.tree_board.specs.NextOpen.{IsOnTheWay}
use Rattle.tree_board.specs.Searches.{board_of}
use Rattle.tree_board.proofs.TreeSteps.{later_count}
use Rattle.tree_board.proofs.board.Board.next_open.Given as goal

abbrev pub invariant-walk : goal.invariant-walk
invariant-walk l = IsOnTheWay (board_of l.self) l.fn.after l.at

abbrev pub decreases-walk : goal.decreases-walk
decreases-walk l = later_count (board_of l.self).nodes l.at
