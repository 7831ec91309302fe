use Rattle.std.proofs.Common.{take}
use Rattle.mg_word.specs.Forms.{pattern_variables}
use Rattle.clause_form.specs.Free.{IsLeastFrom}
use Rattle.clause_form.proofs.variables.least_of_items.Given as goal

abbrev pub invariant-loop-item : goal.invariant-loop-item
invariant-loop-item l = IsLeastFrom (pattern_variables (take l.item-index l.items)) l.from l.least
