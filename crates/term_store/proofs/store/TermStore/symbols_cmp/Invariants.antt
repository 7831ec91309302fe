use Rattle.std.proofs.Common.{◌≡◌, ◌<◌, List, length}
use Rattle.std.specs.Ordering.{nat_cmp}
use Rattle.std.specs.Cmp.Lexicographic.{slice_cmp}
use Rattle.mg_word.specs.Table.{Symbol}
use Rattle.term_store.specs.Terms.{word_at, IsOver}
use Rattle.term_store.proofs.store.TermStore.symbols_cmp.Given as goal

abbrev pub invariant-loop-left : goal.invariant-loop-left
invariant-loop-left l =
    (l.left < length l.self) × (l.right < length l.self)
    × ((table : List Symbol) → IsOver table l.self l.a → IsOver table l.self l.b
    → IsOver table l.self l.left × IsOver table l.self l.right × (slice_cmp nat_cmp (word_at l.self l.a) (word_at l.self l.b) ≡ slice_cmp nat_cmp (word_at l.self l.left) (word_at l.self l.right)))

abbrev pub decreases-loop-left : goal.decreases-loop-left
decreases-loop-left l = l.left
