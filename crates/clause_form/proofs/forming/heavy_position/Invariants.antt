use Rattle.std.proofs.Common.{◌≡◌, true, take}
use Rattle.std.specs.List.{list_all}
use Rattle.clause_form.specs.Faults.{is_light}
use Rattle.clause_form.proofs.forming.heavy_position.Given as goal

abbrev pub invariant-loop-at : goal.invariant-loop-at
invariant-loop-at l = list_all is_light (take l.at l.literals) ≡ true
