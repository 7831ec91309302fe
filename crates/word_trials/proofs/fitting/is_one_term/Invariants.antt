use Rattle.std.proofs.Common.{◌≡◌, true, drop}
use Rattle.mg_word.specs.Words.{are_terms, fits}
use Rattle.word_trials.proofs.fitting.is_one_term.Given as goal

abbrev pub invariant-loop-id : goal.invariant-loop-id
invariant-loop-id l = are_terms l.symbols l.wanted (drop l.id-index l.word) ≡ true → fits l.symbols l.word ≡ true
