use Rattle.std.proofs.Common.{◌≡◌, ◌∷◌, take}
use Rattle.mg_meaning.proofs.minimal.copy_behind.Given as goal

abbrev pub invariant-loop-lit : goal.invariant-loop-lit
invariant-loop-lit l = l.made.items ≡ l.fn.first ∷ take l.lit-index l.lits
