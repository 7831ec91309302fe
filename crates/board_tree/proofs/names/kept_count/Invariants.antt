use Rattle.std.proofs.Common.{◌-◌, ◌≤◌, length}
use Rattle.tree_board.specs.Searches.{board_of}
use Rattle.board_tree.proofs.names.kept_count.Given as goal

abbrev pub invariant-lemmas : goal.invariant-lemmas
invariant-lemmas l = l.count ≤ length (board_of l.board).kept

abbrev pub decreases-lemmas : goal.decreases-lemmas
decreases-lemmas l = length (board_of l.board).kept - l.count
