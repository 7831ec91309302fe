use Rattle.std.proofs.Common.{◌≡◌}
use Rattle.tree_board.specs.CellClimbs.{AreFew, restored}
use Rattle.tree_board.proofs.CellClimbing.{ReachesOn}
use Rattle.tree_board.proofs.cell_climb.go_up.Given as goal

abbrev pub invariant-up : goal.invariant-up
invariant-up l =
    ReachesOn l.journal l.start l.count l.fn.cells.items l.fn.trail.lemmas.items l.fn.trail.nodes.items l.at l.cells.items l.trail.lemmas.items l.trail.nodes.items
    × AreFew l.count l.trail.lemmas.items
    × (restored l.trail.before.items l.cells.items ≡ restored l.fn.trail.before.items l.fn.cells.items)

abbrev pub decreases-up : goal.decreases-up
decreases-up l = l.at
