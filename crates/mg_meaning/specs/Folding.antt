-- The pair that a closed split node learns from its children, after the nogoods of complement splitting.
use Rattle.std.specs.Prelude.{Bool, not, ◌&&◌, List, [], ◌∷◌, ◌++◌, filter, IsTrue}
use Rattle.mg_word.specs.Sets.{holds, is_part, with_lit, set_of}
use Rattle.mg_word.specs.Words.{complement_of}
use Rattle.mg_word.specs.declared.lit.Lit.{Lit}
use Rattle.mg_word.specs.declared.form.Inst.{Inst}

-- a lemma: a set that holds all of the inside holds something of the outside
pub record Pair : Type 0 where
  pub inside : List Lit
  pub outside : List Lit

-- the pair applies where its inside is held and its outside is barred
abbrev pub applies : Pair → List Lit → List Lit → Bool
applies pair held barred = is_part pair.inside held && is_part pair.outside barred

-- one pair for each conclusion: child i's applies where conclusion i is held too, and those before it are barred too
abbrev pub ApplyAtChildren : List Lit → List Lit → List Lit → List Pair → Type 0
ApplyAtChildren held barred [] [] = Unit {0}
ApplyAtChildren held barred (conclusion ∷ conclusions) (pair ∷ pairs) =
    IsTrue (applies pair (held ++ conclusion ∷ []) barred) × ApplyAtChildren held (with_lit barred conclusion) conclusions pairs
ApplyAtChildren held barred [] (pair ∷ pairs) = ⊥
ApplyAtChildren held barred (conclusion ∷ conclusions) [] = ⊥

-- the literals that are not among these
abbrev pub without : List Lit → List Lit → List Lit
without taken lits = filter (λ lit. not (holds taken lit)) lits

-- each child's inside without the child's own conclusion
abbrev pub insides : List Lit → List Pair → List Lit
insides [] pairs = []
insides (conclusion ∷ conclusions) [] = []
insides (conclusion ∷ conclusions) (pair ∷ pairs) = without (conclusion ∷ []) pair.inside ++ insides conclusions pairs

-- each child's outside without the conclusions before the child's own
abbrev pub outsides : List Lit → List Lit → List Pair → List Lit
outsides before [] pairs = []
outsides before (conclusion ∷ conclusions) [] = []
outsides before (conclusion ∷ conclusions) (pair ∷ pairs) = without before pair.outside ++ outsides (before ++ conclusion ∷ []) conclusions pairs

-- the pair of a node that the instance split, from those of its children, one for each conclusion
abbrev pub folded : Inst → List Pair → Pair
folded inst pairs = record {
  inside = set_of (inst.premises ++ insides inst.conclusions pairs);
  outside = set_of (outsides [] inst.conclusions pairs);
}

-- the pair of a node that an instance without conclusions rejects
abbrev pub rejecting : Inst → Pair
rejecting inst = record { inside = set_of inst.premises; outside = [] }

-- the pair of a child that clashes at this literal
abbrev pub clashing : Lit → Pair
clashing lit = record { inside = set_of (lit ∷ complement_of lit ∷ []); outside = [] }

-- the pair of a child whose literal is barred
abbrev pub barring : Lit → Pair
barring lit = record { inside = lit ∷ []; outside = lit ∷ [] }
