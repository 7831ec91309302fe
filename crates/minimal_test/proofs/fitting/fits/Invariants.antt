use Rattle.std.proofs.Common.{◌≡◌, drop}
use Rattle.mg_word.specs.Words.{fits, are_terms}
use Rattle.minimal_test.proofs.fitting.fits.Given as goal

-- the word is one term where the rest is so many
abbrev pub invariant-loop-at : goal.invariant-loop-at
invariant-loop-at l = fits l.symbols l.word ≡ are_terms l.symbols l.wanted (drop l.at l.word)
