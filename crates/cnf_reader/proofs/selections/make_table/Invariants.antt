use Rattle.std.proofs.Common.{◌≡◌, ◌≤◌, drop, length}
use Rattle.cnf_reader.specs.Selecting.{with_names, table_of}
use Rattle.cnf_reader.proofs.selections.make_table.Given as goal

abbrev pub invariant-loop-name : goal.invariant-loop-name
invariant-loop-name l = (with_names l.table (drop l.name-index l.names) ≡ table_of l.names) × (length l.table ≤ l.name-index)
