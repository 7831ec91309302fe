use Rattle.std.proofs.Common.{◌-◌, length}
use Rattle.tree_board.specs.Searches.{board_of}
use Rattle.board_tree.specs.Lines.{lines_of}
use Rattle.board_tree.specs.Refuted.{IsRefuted}
use Rattle.board_tree.proofs.Written.{IsUnderWay}
use Rattle.board_tree.proofs.lines.lines_of.Given as goal

abbrev pub invariant-nodes : goal.invariant-nodes
invariant-nodes l = (refuted : IsRefuted l.board) × IsUnderWay l.board refuted l.top l.written.items l.waiting.items

abbrev pub decreases-nodes : goal.decreases-nodes
decreases-nodes l = length (lines_of (board_of l.board) l.top) - length l.written.items
