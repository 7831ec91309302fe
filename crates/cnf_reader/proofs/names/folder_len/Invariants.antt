use Rattle.std.proofs.Common.{◌≡◌, ◌≤◌, drop}
use Rattle.cnf_reader.specs.Names.{up_to_slash}
use Rattle.cnf_reader.proofs.names.folder_len.Given as goal

abbrev pub invariant-loop-at : goal.invariant-loop-at
invariant-loop-at l = record {
  count : up_to_slash l.at l.len (drop l.at l.name) ≡ up_to_slash 0 0 l.name;
  within : l.len ≤ l.at;
}
