use Rattle.std.proofs.Common.{◌≡◌}
use Rattle.tree_board.specs.CellMoves.{reasons_of}
use Rattle.tree_board.proofs.growing.reasons_of.Given as goal

abbrev pub invariant-cases : goal.invariant-cases
invariant-cases l = l.reasons.items ≡ reasons_of l.yielded
