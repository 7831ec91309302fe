use Rattle.std.proofs.Common.{◌≡◌, take}
use Rattle.mg_word.specs.Forms.{others_from, chosen_from}
use Rattle.clause_form.proofs.sides.further_form_of.Given as goal

abbrev pub invariant-loop-at : goal.invariant-loop-at
invariant-loop-at l = record {
  premises_are : l.premises.items ≡ others_from 1 l.chosen (take l.at l.literals);
  conclusions_are : l.conclusions.items ≡ chosen_from 1 l.chosen (take l.at l.literals);
}
