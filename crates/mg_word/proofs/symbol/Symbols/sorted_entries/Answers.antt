use Rattle.std.proofs.Common.{map, arith}
use Rattle.std.proofs.lemmas.List.{take_all}
use Rattle.std.proofs.lemmas.List.Sorted.{IsPermutation-map}
use Rattle.mg_word.specs.Seen.{entry_seen}
use Rattle.mg_word.specs.SymbolOrder.{symbol_cmp}
use Rattle.mg_word.specs.contracts.symbol.EntryOrd.TheImpl.{cmp-value}
use Rattle.mg_word.specs.contracts.symbol.EntryPartialEq.TheImpl.{eq-value}
use Rattle.mg_word.proofs.Entries.{entry_equal}
use Rattle.mg_word.proofs.Different.{different}
use Rattle.mg_word.proofs.Sorting.{entry_order, seen_sorted, permuted_different}
use Rattle.mg_word.proofs.symbol.Symbols.sorted_entries.Goals as goal

pub returns-clause-ordered : goal.returns-clause-ordered
returns-clause-ordered c = seen_sorted entry_seen cmp-value.it symbol_cmp entry_order c.sort.new.self.items c.in_ok-sort.ensures.sorted

pub returns-clause-permuted : goal.returns-clause-permuted
returns-clause-permuted c =
    let copied = c.loop-entry.invariant in
    let whole = take_all c.loop-entry.entry-index c.as_slice-entry-items.result.now (omega arith) in
    let keys = c.as_slice-entry-items.ensures.keys in
    rw (← c.self.view_is, ← keys, ← whole, ← copied)
    (IsPermutation-map entry_seen c.loop-entry.entries.items c.sort.new.self.items c.in_ok-sort.ensures.permutation)

pub returns-clause-different : goal.returns-clause-different
returns-clause-different c =
    let copied = c.loop-entry.invariant in
    let whole = take_all c.loop-entry.entry-index c.as_slice-entry-items.result.now (omega arith) in
    let keys = c.as_slice-entry-items.ensures.keys in
    permuted_different (map entry_seen c.loop-entry.entries.items) (map entry_seen c.sort.new.self.items)
    (IsPermutation-map entry_seen c.loop-entry.entries.items c.sort.new.self.items c.in_ok-sort.ensures.permutation)
    (rw (copied, whole, keys) (different eq-value.it entry_seen entry_equal c.self.inside.entries.keys c.as_slice-entry-items.ensures.unique))
