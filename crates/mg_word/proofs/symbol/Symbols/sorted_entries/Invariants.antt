use Rattle.std.proofs.Common.{◌≡◌, map, take}
use Rattle.mg_word.specs.Seen.{entry_seen}
use Rattle.mg_word.proofs.symbol.Symbols.sorted_entries.Given as goal

abbrev pub invariant-loop-entry : goal.invariant-loop-entry
invariant-loop-entry l = map entry_seen l.entries.items ≡ map entry_seen (take l.entry-index l.entry-items)
