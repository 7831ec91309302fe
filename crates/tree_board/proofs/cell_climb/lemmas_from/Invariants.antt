use Rattle.std.proofs.Common.{◌≡◌, ◌+◌, ◌++◌, drop, option_map}
use Rattle.tree_board.specs.CellClimbs.{lemmas_from}
use Rattle.tree_board.proofs.cell_climb.lemmas_from.Given as goal

abbrev pub invariant-children : goal.invariant-children
invariant-children l = lemmas_from l.cells l.first l.inst.conclusions ≡ option_map (λ rest. l.lemmas.items ++ rest) (lemmas_from l.cells (l.first + l.index) (drop l.index l.inst.conclusions))
