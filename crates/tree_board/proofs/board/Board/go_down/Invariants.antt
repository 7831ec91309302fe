use Rattle.std.proofs.Common.{length}
use Rattle.tree_board.specs.Paths.{LeadsNear}
use Rattle.tree_board.proofs.board.Board.go_down.Given as goal

abbrev pub invariant-down : goal.invariant-down
invariant-down l = LeadsNear l.self l.node l.path l.ahead.items

abbrev pub decreases-down : goal.decreases-down
decreases-down l = length l.ahead.items
