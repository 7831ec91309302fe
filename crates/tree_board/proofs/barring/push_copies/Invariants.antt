use Rattle.std.proofs.Common.{◌≡◌, ◌++◌, take}
use Rattle.tree_board.proofs.barring.push_copies.Given as goal

abbrev pub invariant-loop-lit : goal.invariant-loop-lit
invariant-loop-lit l = l.into.items ≡ l.fn.into.items ++ take l.lit-index l.lits
