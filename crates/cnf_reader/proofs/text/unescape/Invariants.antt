use Rattle.std.proofs.Common.{◌≡◌, ◌++◌, drop, false}
use Rattle.cnf_grammar.specs.Meaning.{unescaped}
use Rattle.cnf_reader.proofs.text.unescape.Given as goal

abbrev pub invariant-loop-byte : goal.invariant-loop-byte
invariant-loop-byte l = l.made.items ++ unescaped l.escaped (drop l.byte-index l.bytes) ≡ unescaped false l.bytes
