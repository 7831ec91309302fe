use Rattle.std.proofs.Common.{◌≡◌, take}
use Rattle.mg_word.proofs.lit_set.LitSet.copy.Given as goal

abbrev pub invariant-loop-lit : goal.invariant-loop-lit
invariant-loop-lit l = l.lits.items ≡ take l.lit-index l.lit-items
