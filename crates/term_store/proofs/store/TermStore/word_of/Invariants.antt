use Rattle.std.proofs.Common.{◌≡◌, ◌<◌, ◌-◌, ◌++◌, All, length, reverse}
use Rattle.std.specs.List.{flat_map}
use Rattle.term_store.specs.Terms.{word_at}
use Rattle.term_store.proofs.store.TermStore.word_of.Given as goal

-- the word is what was written and the words of the pending terms, the last first
abbrev pub invariant-loop-number : goal.invariant-loop-number
invariant-loop-number l = (word_at l.self l.id ≡ l.symbols.items ++ flat_map (word_at l.self) (reverse l.pending.items)) × All (λ number. number < length l.self) l.pending.items

abbrev pub decreases-loop-number : goal.decreases-loop-number
decreases-loop-number l = length (word_at l.self l.id) - length l.symbols.items
