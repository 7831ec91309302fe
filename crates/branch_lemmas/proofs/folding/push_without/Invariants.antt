use Rattle.std.proofs.Common.{◌≡◌, ◌++◌, take}
use Rattle.mg_meaning.specs.Folding.{without}
use Rattle.branch_lemmas.proofs.folding.push_without.Given as goal

abbrev pub invariant-loop-lit : goal.invariant-loop-lit
invariant-loop-lit l = l.into.items ≡ l.initial.into.items ++ without l.taken (take l.lit-index l.lits)
