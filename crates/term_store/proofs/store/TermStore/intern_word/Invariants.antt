use Rattle.std.proofs.Common.{◌≤◌, length, reverse}
use Rattle.term_store.specs.Terms.{IsStore}
use Rattle.term_store.specs.Reading.{GrowsBy, ArePending}
use Rattle.term_store.proofs.store.TermStore.intern_word.Given as goal

abbrev pub invariant-loop-at : goal.invariant-loop-at
invariant-loop-at l =
    (l.at ≤ length l.word) × IsStore l.self × ArePending l.symbols l.self l.word l.at (reverse l.pending.items) × GrowsBy l.symbols l.word l.initial.self l.self

abbrev pub decreases-loop-at : goal.decreases-loop-at
decreases-loop-at l = l.at
