use Rattle.std.proofs.Common.{◌≡◌, false, take}
use Rattle.mg_word.specs.Forms.{is_always_true}
use Rattle.clause_form.proofs.forming.has_true.Given as goal

abbrev pub invariant-loop-literal : goal.invariant-loop-literal
invariant-loop-literal l = is_always_true (take l.literal-index l.literals) ≡ false
