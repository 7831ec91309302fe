use Rattle.std.proofs.Common.{◌≡◌, length}
use Rattle.tree_board.specs.CellClimbs.{restored}
use Rattle.tree_board.proofs.cell_climb.restore.Given as goal

abbrev pub invariant-back : goal.invariant-back
invariant-back l = restored l.rest.items l.cells.items ≡ restored l.initial.rest.items l.initial.cells.items

abbrev pub decreases-back : goal.decreases-back
decreases-back l = length l.rest.items
