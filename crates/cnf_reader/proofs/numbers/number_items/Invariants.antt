use Rattle.std.proofs.Common.{◌≡◌, ◌+◌, ◌≤◌, ◌++◌, length, map, drop, IsTrue}
use Rattle.std.specs.List.{list_all}
use Rattle.cnf_grammar.specs.Soundness.{item_suits}
use Rattle.cnf_reader.specs.Drafts.{item_seen}
use Rattle.cnf_reader.specs.Keeping.{numbered_items, with_items}
use Rattle.cnf_reader.proofs.numbers.number_items.Given as goal

abbrev pub invariant-loop-item : goal.invariant-loop-item
invariant-loop-item l = record {
  made : l.made.items ++ numbered_items l.symbols (map item_seen (drop l.item-index l.items)) ≡ numbered_items l.fn.symbols (map item_seen l.items);
  table : with_items l.symbols (map item_seen (drop l.item-index l.items)) ≡ with_items l.fn.symbols (map item_seen l.items);
  room : length l.symbols + length (drop l.item-index l.items) ≤ 4294967295;
  right : IsTrue (list_all item_suits (map item_seen (drop l.item-index l.items)));
}
