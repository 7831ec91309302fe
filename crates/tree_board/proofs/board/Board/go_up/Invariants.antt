use Rattle.std.proofs.Common.{◌+◌}
use Rattle.tree_board.specs.Paths.{HasMet, LeadsTo}
use Rattle.tree_board.specs.Searches.{board_of}
use Rattle.tree_board.proofs.board.Board.go_up.Given as goal

abbrev pub invariant-up : goal.invariant-up
invariant-up l = LeadsTo l.self l.path × HasMet (board_of l.self).nodes l.node l.at l.met.items

abbrev pub decreases-up : goal.decreases-up
decreases-up l = l.at + l.path.node
