use Rattle.std.specs.Vec.Iter.{into_iter_items}
use Rattle.mg_word.specs.Seen.{entry_seen}
use Rattle.mg_word.specs.contracts.symbol.EntryPartialEq.TheImpl.{eq-value}
use Rattle.mg_word.proofs.Entries.{entry_same, entry_equal}
use Rattle.mg_word.proofs.Sorting.{inserted_last}
use Rattle.mg_word.proofs.symbol.Symbols.of_entries.Goals as goal

pub loop-entry-preserved : goal.loop-entry-preserved
loop-entry-preserved c =
    let step = c.in-Some.ensures.steps in
    inserted_last eq-value.it entry_seen entry_same entry_equal c.loop-entry.set.keys (into_iter_items c.next.new.self) c.args.entries.items c.insert_full.new.self.keys c.in-Some.entry
    c.in_ok-insert_full.ensures.keys (rw step.0 at c.loop-entry.invariant) c.requires.different
