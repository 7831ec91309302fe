use Rattle.tree_board.specs.Searches.{board_of}
use Rattle.tree_board.proofs.TreeSteps.{IsUp}
use Rattle.tree_board.proofs.board.Board.behind.Given as goal

abbrev pub invariant-up : goal.invariant-up
invariant-up l = IsUp (board_of l.self) l.node l.at

abbrev pub decreases-up : goal.decreases-up
decreases-up l = l.at
