use Rattle.tree_board.specs.Searches.{board_of}
use Rattle.tree_board.proofs.BarredWays.{IsBarredUpTo}
use Rattle.tree_board.proofs.board.Board.barred_at.Given as goal

abbrev pub invariant-up : goal.invariant-up
invariant-up l = IsBarredUpTo (board_of l.self).nodes l.node l.at l.barred.items

abbrev pub decreases-up : goal.decreases-up
decreases-up l = l.at
