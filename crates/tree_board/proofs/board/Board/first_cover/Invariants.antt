use Rattle.tree_board.specs.Searches.{board_of}
use Rattle.tree_board.proofs.QuickSettling.{NoneBefore}
use Rattle.tree_board.proofs.board.Board.first_cover.Given as goal

abbrev pub invariant-loop-node : goal.invariant-loop-node
invariant-loop-node l = NoneBefore (board_of l.self).nodes l.lits l.node
