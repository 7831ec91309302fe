use Rattle.std.proofs.Common.{take}
use Rattle.mg_word.specs.Forms.{lits_variables}
use Rattle.clause_form.specs.Free.{IsLeastFrom}
use Rattle.clause_form.proofs.variables.least_of_lits.Given as goal

abbrev pub invariant-loop-lit : goal.invariant-loop-lit
invariant-loop-lit l = IsLeastFrom (lits_variables (take l.lit-index l.lits)) l.from l.least
