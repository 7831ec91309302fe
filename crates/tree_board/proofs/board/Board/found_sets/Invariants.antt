use Rattle.std.proofs.Common.{◌≡◌, take}
use Rattle.tree_board.specs.FoundSets.{found_sets}
use Rattle.tree_board.specs.Searches.{board_of}
use Rattle.tree_board.proofs.board.Board.found_sets.Given as goal

abbrev pub invariant-loop-node : goal.invariant-loop-node
invariant-loop-node l = l.sets.items ≡ found_sets (take l.node (board_of l.self).nodes)
