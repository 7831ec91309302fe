use Rattle.std.proofs.Common.{◌≡◌, take}
use Rattle.tree_board.specs.Searches.{board_of}
use Rattle.board_tree.specs.Tables.{marks_from}
use Rattle.board_tree.proofs.names.marks_of.Given as goal

abbrev pub invariant-loop-node : goal.invariant-loop-node
invariant-loop-node l = l.marks.items ≡ marks_from (take l.node (board_of l.board).nodes) 1 (board_of l.board).kept
