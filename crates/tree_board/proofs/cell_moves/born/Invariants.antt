use Rattle.std.proofs.Common.{◌≡◌}
use Rattle.tree_board.specs.CellMoves.{cells_by, closures_by}
use Rattle.tree_board.proofs.cell_moves.born.Given as goal

abbrev pub invariant-reasons : goal.invariant-reasons
invariant-reasons l = (l.cells.items ≡ cells_by l.parent l.first l.yielded) × (l.closures.items ≡ closures_by l.yielded)
