use Rattle.std.proofs.Common.{◌≡◌, drop}
use Rattle.std.specs.List.{list_all}
use Rattle.cnf_reader.specs.Faults.{selects}
use Rattle.cnf_reader.proofs.selections.Selections.have.Given as goal

abbrev pub invariant-loop-names : goal.invariant-loop-names
invariant-loop-names l = list_all (selects l.name) (drop l.names-index l.names-items) ≡ list_all (selects l.name) l.names-items
