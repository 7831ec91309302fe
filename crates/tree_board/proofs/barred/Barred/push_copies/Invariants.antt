use Rattle.std.proofs.Common.{◌≡◌, ◌++◌, take}
use Rattle.tree_board.proofs.barred.Barred.push_copies.Given as goal

abbrev pub invariant-loop-lit : goal.invariant-loop-lit
invariant-loop-lit l = l.self ≡ l.fn.self ++ take l.lit-index l.lits
