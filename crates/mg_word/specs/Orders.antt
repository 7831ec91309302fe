-- The orders of words, literals and lists of literals.
use Rattle.std.specs.Prelude.{ℕ, List, length}
use Rattle.std.specs.declared.cmp.Ordering.{Ordering}
use Rattle.std.specs.Ordering.{nat_cmp, bool_cmp, on, then_cmp}
use Rattle.std.specs.Cmp.Lexicographic.{slice_cmp}
use Rattle.mg_word.specs.declared.lit.Lit.{Lit}

-- fewer symbols first, then the first differing symbol
abbrev pub word_cmp : List ℕ → List ℕ → Ordering
word_cmp = then_cmp (on length nat_cmp) (slice_cmp nat_cmp)

-- by their words, then positive before negative
abbrev pub lit_cmp : Lit → Lit → Ordering
lit_cmp = then_cmp (on (λ lit. lit.word) word_cmp) (on (λ lit. lit.negative) bool_cmp)

-- literal by literal, a prefix first
abbrev pub lits_cmp : List Lit → List Lit → Ordering
lits_cmp = slice_cmp lit_cmp
