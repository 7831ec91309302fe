-- Which of several lemmas closes a branch.
use Rattle.std.specs.Prelude.{ℕ, suc, List, Option, option_map}
use Rattle.std.specs.List.{position}
use Rattle.mg_word.specs.declared.lit.Lit.{Lit}
use Rattle.mg_meaning.specs.Folding.{Pair, applies}

-- the least number of a lemma that applies, where lemmas are numbered from 1
abbrev pub first_applying : List Pair → List Lit → List Lit → Option ℕ
first_applying lemmas held barred = option_map (λ index. suc index) (position (λ lemma. applies lemma held barred) lemmas)
