use Rattle.std.proofs.Common.{◌≡◌, ◌+◌, ◌≤◌, ◌++◌, length, map, drop, IsTrue}
use Rattle.std.specs.List.{list_all}
use Rattle.cnf_grammar.specs.Soundness.{literal_suits}
use Rattle.cnf_reader.specs.Drafts.{literal_seen}
use Rattle.cnf_reader.specs.Keeping.{numbered_literals, with_literals}
use Rattle.cnf_reader.specs.Sound.{count_items}
use Rattle.cnf_reader.proofs.numbers.number_literals.Given as goal

abbrev pub invariant-loop-literal : goal.invariant-loop-literal
invariant-loop-literal l = record {
  made : l.made.items ++ numbered_literals l.symbols (map literal_seen (drop l.literal-index l.literals)) ≡ numbered_literals l.fn.symbols (map literal_seen l.literals);
  table : with_literals l.symbols (map literal_seen (drop l.literal-index l.literals)) ≡ with_literals l.fn.symbols (map literal_seen l.literals);
  room : length l.symbols + count_items (map literal_seen (drop l.literal-index l.literals)) ≤ 4294967295;
  right : IsTrue (list_all literal_suits (map literal_seen (drop l.literal-index l.literals)));
}
