use Rattle.std.proofs.Common.{◌≡◌, take, true}
use Rattle.mg_word.specs.Forms.{forms_of}
use Rattle.clause_form.specs.Faults.{is_faultless}
use Rattle.clause_form.proofs.forming.all_forms.Given as goal

abbrev pub invariant-loop-index : goal.invariant-loop-index
invariant-loop-index l = record {
  built_is : l.built.items ≡ forms_of (take l.index l.clauses);
  faultless : is_faultless (take l.index l.clauses) ≡ true;
}
