use Rattle.std.proofs.Common.{◌≡◌, ◌≤◌, ◌++◌, length, true}
use Rattle.std.specs.List.{list_all}
use Rattle.mg_word.specs.Forms.{is_restricted}
use Rattle.mg_word.specs.Facts.{most_forms}
use Rattle.clause_form.proofs.FormLists.{first_forms}
use Rattle.clause_form.proofs.forming.push_forms.Given as goal

abbrev pub invariant-loop-chosen : goal.invariant-loop-chosen
invariant-loop-chosen l = record {
  added : l.others.items ≡ l.fn.others.items ++ first_forms l.index l.clause l.chosen-index;
  few : length l.others.items ≤ most_forms;
  restricted : list_all is_restricted (first_forms l.index l.clause l.chosen-index) ≡ true;
}
