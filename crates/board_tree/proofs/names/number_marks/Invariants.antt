use Rattle.std.proofs.Common.{◌≡◌, ◌≤◌, ◌++◌, drop}
use Rattle.board_tree.specs.Tables.{names_after}
use Rattle.board_tree.proofs.names.number_marks.Given as goal

abbrev pub invariant-loop-mark : goal.invariant-loop-mark
invariant-loop-mark l = (l.count ≤ l.mark-index) × (l.names.items ++ names_after l.count (drop l.mark-index l.marks) ≡ names_after 0 l.marks)
