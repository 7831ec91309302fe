use Rattle.std.proofs.Common.{◌≡◌, ◌++◌, take}
use Rattle.tree_checker.proofs.lits.push_copies.Given as goal

abbrev pub invariant-loop-lit : goal.invariant-loop-lit
invariant-loop-lit l = l.trail ≡ l.fn.trail ++ take l.lit-index l.lits
