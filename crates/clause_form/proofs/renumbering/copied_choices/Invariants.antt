use Rattle.std.proofs.Common.{◌≡◌, take}
use Rattle.clause_form.proofs.renumbering.copied_choices.Given as goal

abbrev pub invariant-loop-chosen : goal.invariant-loop-chosen
invariant-loop-chosen l = l.copied.items ≡ take l.chosen-index l.choices
