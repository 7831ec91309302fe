use Rattle.std.proofs.Common.{◌≡◌, map, take}
use Rattle.term_store.specs.Terms.{word_at}
use Rattle.minimal_test.proofs.full_rules.words_at.Given as goal

abbrev pub invariant-loop-number : goal.invariant-loop-number
invariant-loop-number l = l.words.items ≡ map (word_at l.terms) (take l.number-index l.numbers)
