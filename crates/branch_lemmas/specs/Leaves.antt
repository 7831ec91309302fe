-- The lemmas of the leaves of a split.
use Rattle.mg_meaning.specs.Folding.{Pair, clashing, barring}
use Rattle.case_split.specs.declared.child.Closure.{Closure}
use Rattle.case_split.specs.declared.child.Closure.TheVariants.{Clash, Barred}

-- the lemma of a child that is closed at once
abbrev pub lemma_of : Closure → Pair
lemma_of (Clash lit) = clashing lit
lemma_of (Barred lit) = barring lit
