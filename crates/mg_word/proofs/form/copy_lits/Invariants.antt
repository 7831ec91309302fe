use Rattle.std.proofs.Common.{◌≡◌, take}
use Rattle.mg_word.proofs.form.copy_lits.Given as goal

abbrev pub invariant-loop-lit : goal.invariant-loop-lit
invariant-loop-lit l = l.copied.items ≡ take l.lit-index l.lit-items
