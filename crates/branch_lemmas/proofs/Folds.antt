-- The steps of the loops that fold lemmas.
use Rattle.std.proofs.Common.{◌≡◌, ℕ, zero, suc, ◌+◌, add-one, ◌<◌, List, [], ◌∷◌, ◌++◌, length, get_or, take, drop, arith, sym, ap, append_assoc, append-nil}
use Rattle.mg_word.specs.declared.lit.Lit.{Lit}
use Rattle.mg_meaning.specs.Folding.{Pair, without, insides, outsides}

-- what the children from an index on add inside begins with what the first of them does
pub insides-drop : (conclusions : List Lit) (lemmas : List Pair) (index : ℕ) (lemma : Pair) → index < length lemmas → length lemmas ≡ length conclusions → lemma ≡ get_or lemmas index lemma
    → insides (drop index conclusions) (drop index lemmas) ≡ without (take 1 (drop index conclusions)) lemma.inside ++ insides (drop (suc index) conclusions) (drop (suc index) lemmas)
insides-drop [] [] index lemma within same is = absurd (omega arith)
insides-drop [] (first ∷ lemmas) index lemma within same is = absurd (omega arith)
insides-drop (conclusion ∷ conclusions) [] index lemma within same is = absurd (omega arith)
insides-drop (conclusion ∷ conclusions) (first ∷ lemmas) zero lemma within same is = ap (λ one. without (conclusion ∷ []) one.inside ++ insides conclusions lemmas) (sym is)
insides-drop (conclusion ∷ conclusions) (first ∷ lemmas) (suc index) lemma within same is = insides-drop conclusions lemmas index lemma (omega arith) (omega arith) is

-- and the same outside
pub outsides-drop : (before conclusions : List Lit) (lemmas : List Pair) (index : ℕ) (lemma : Pair) → index < length lemmas → length lemmas ≡ length conclusions → lemma ≡ get_or lemmas index lemma
    → outsides (before ++ take index conclusions) (drop index conclusions) (drop index lemmas)
    ≡ without (before ++ take index conclusions) lemma.outside ++ outsides (before ++ take (suc index) conclusions) (drop (suc index) conclusions) (drop (suc index) lemmas)
outsides-drop before [] [] index lemma within same is = absurd (omega arith)
outsides-drop before [] (first ∷ lemmas) index lemma within same is = absurd (omega arith)
outsides-drop before (conclusion ∷ conclusions) [] index lemma within same is = absurd (omega arith)
outsides-drop before (conclusion ∷ conclusions) (first ∷ lemmas) zero lemma within same is =
    let alone : before ++ [] ≡ before = append-nil before in
    let outside : first.outside ≡ lemma.outside = ap (λ one. one.outside) (sym is) in
    cc
outsides-drop before (conclusion ∷ conclusions) (first ∷ lemmas) (suc index) lemma within same is =
    simp append_assoc at (outsides-drop (before ++ conclusion ∷ []) conclusions lemmas index lemma (omega arith) (omega arith) is)

-- a turn of the loop that folds the insides
pub inside_turn : (before after lits whole : List Lit) (conclusions : List Lit) (lemmas : List Pair) (index count : ℕ) (lemma : Pair) → index < length lemmas → length lemmas ≡ length conclusions → lemma ≡ get_or lemmas index lemma
    → count ≡ 1 → lits ≡ lemma.inside → after ≡ before ++ without (take count (drop index conclusions)) lits → before ++ insides (drop index conclusions) (drop index lemmas) ≡ whole
    → after ++ insides (drop (index + 1) conclusions) (drop (index + 1) lemmas) ≡ whole
inside_turn before after lits whole conclusions lemmas index count lemma within same is one inside pushed held =
    let step = insides-drop conclusions lemmas index lemma within same is in
    let next : index + 1 ≡ suc index = add-one index in
    let joined = append_assoc before (without (take 1 (drop index conclusions)) lemma.inside) (insides (drop (suc index) conclusions) (drop (suc index) lemmas)) in
    cc

-- a turn of the loop that folds the outsides
pub outside_turn : (before after lits whole : List Lit) (conclusions : List Lit) (lemmas : List Pair) (index : ℕ) (lemma : Pair) → index < length lemmas → length lemmas ≡ length conclusions → lemma ≡ get_or lemmas index lemma
    → lits ≡ lemma.outside → after ≡ before ++ without (take index conclusions) lits → before ++ outsides (take index conclusions) (drop index conclusions) (drop index lemmas) ≡ whole
    → after ++ outsides (take (index + 1) conclusions) (drop (index + 1) conclusions) (drop (index + 1) lemmas) ≡ whole
outside_turn before after lits whole conclusions lemmas index lemma within same is outside pushed held =
    let step = outsides-drop [] conclusions lemmas index lemma within same is in
    let next : index + 1 ≡ suc index = add-one index in
    let joined = append_assoc before (without (take index conclusions) lemma.outside) (outsides (take (suc index) conclusions) (drop (suc index) conclusions) (drop (suc index) lemmas)) in
    cc
