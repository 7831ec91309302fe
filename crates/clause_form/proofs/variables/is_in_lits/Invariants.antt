use Rattle.std.proofs.Common.{◌≡◌, false, take}
use Rattle.mg_word.specs.Forms.{is_among, lits_variables}
use Rattle.clause_form.proofs.variables.is_in_lits.Given as goal

abbrev pub invariant-loop-lit : goal.invariant-loop-lit
invariant-loop-lit l = is_among (lits_variables (take l.lit-index l.lits)) l.variable ≡ false
