use Rattle.std.proofs.Common.{◌≡◌, take}
use Rattle.mg_word.specs.Forms.{premises_of, conclusions_of}
use Rattle.clause_form.proofs.sides.plain_form_of.Given as goal

abbrev pub invariant-loop-literal : goal.invariant-loop-literal
invariant-loop-literal l = record {
  premises_are : l.premises.items ≡ premises_of (take l.literal-index l.literals);
  conclusions_are : l.conclusions.items ≡ conclusions_of (take l.literal-index l.literals);
}
