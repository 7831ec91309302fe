use Rattle.std.proofs.Common.{[], ◌∷◌, take}
use Rattle.tree_checker.specs.Docs.{lemmas_of}
use Rattle.tree_checker.proofs.Lines.{Reached}
use Rattle.tree_checker.proofs.check.check_tree.Given as goal

abbrev pub invariant-loop-at : goal.invariant-loop-at
invariant-loop-at l = Reached l.forms (lemmas_of l.blocks) (record { held = l.held; barred = l.barred } ∷ []) (take l.at l.lines) l.walk
