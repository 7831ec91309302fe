use Rattle.std.proofs.Common.{◌≡◌, [], take}
use Rattle.tree_board.specs.Paths.{reasons_from}
use Rattle.tree_board.proofs.path.Path.reasons.Given as goal

abbrev pub invariant-loop-index : goal.invariant-loop-index
invariant-loop-index l = l.reasons.items ≡ reasons_from l.self.branch.lits l.self.barred [] (take l.index l.conclusions)
