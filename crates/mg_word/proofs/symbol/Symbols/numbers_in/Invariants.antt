use Rattle.std.proofs.Common.{◌≡◌, ℕ, ◌<◌, vec_len, map, slice_get, slice_index}
use Rattle.mg_word.specs.Seen.{entry_seen}
use Rattle.mg_word.proofs.symbol.Symbols.numbers_in.Given as goal

abbrev pub invariant-loop-entry : goal.invariant-loop-entry
invariant-loop-entry l =
    (vec_len l.numbers ≡ l.entry-index) ×
    ((id : ℕ) → id < l.entry-index → slice_get l.other (slice_index l.numbers.items id) ≡ slice_get (map entry_seen l.entry-items) id)
