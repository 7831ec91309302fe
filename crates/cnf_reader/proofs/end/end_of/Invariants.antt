use Rattle.std.proofs.Common.{◌≡◌, ◌+◌, ◌≤◌, drop}
use Rattle.tptp_lexer.specs.Spots.{first_spot, passed}
use Rattle.cnf_reader.proofs.end.end_of.Given as goal

abbrev pub invariant-loop-byte : goal.invariant-loop-byte
invariant-loop-byte l = record {
  passed : passed (record { offset = l.byte-index; line = l.line; column = l.column }) (drop l.byte-index l.bytes) ≡ passed first_spot l.bytes;
  lines : l.line ≤ l.byte-index + 1;
  columns : l.column ≤ l.byte-index + 1;
}
