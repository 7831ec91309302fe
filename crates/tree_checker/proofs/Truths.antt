-- Truth of lists of literals, and what membership says of it.
use Rattle.std.proofs.Common.{◌≡◌, Bool, true, false, true≢false, ◌||◌, List, [], ◌∷◌, ◌++◌, length, All, refl, sym, ap, ◌∙◌}
use Rattle.std.specs.List.{list_all}
use Rattle.std.proofs.lemmas.List.Folds.{list_all-append}
use Rattle.std.proofs.lemmas.List.Elements.{All-take, All-drop}
use Rattle.std.proofs.lemmas.List.{take_at, drop_at}
use Rattle.mg_word.specs.OrderLaws.{lits_equal}
use Rattle.mg_word.specs.Sets.{same_lit, holds, is_part}
use Rattle.mg_word.specs.declared.lit.Lit.{Lit}
use Rattle.mg_word.proofs.Members.{both_true}

-- two lists all of whose items pass
pub all_append : {X : Type 0} (test : X → Bool) (xs ys : List X) → list_all test (xs ++ ys) ≡ true → (list_all test xs ≡ true) × (list_all test ys ≡ true)
all_append test xs ys e = both_true (list_all test xs) (list_all test ys) (sym (list_all-append test xs ys) ∙ e)

pub all_push : {X : Type 0} (test : X → Bool) (xs : List X) (x : X) → list_all test xs ≡ true → test x ≡ true → list_all test (xs ++ x ∷ []) ≡ true
all_push test xs x front last = list_all-append test xs (x ∷ []) ∙ rw (front, last) refl

pub All-front : {X : Type 0} (P : X → Type 0) (xs ys : List X) → All P (xs ++ ys) → All P xs
All-front P xs ys all = rw (take_at xs ys (length xs) refl) at (All-take P (length xs) (xs ++ ys) all)

pub All-back : {X : Type 0} (P : X → Type 0) (xs ys : List X) → All P (xs ++ ys) → All P ys
All-back P xs ys all = rw (drop_at xs ys (length xs) refl) at (All-drop P (length xs) (xs ++ ys) all)

-- what all literals pass, each of them does
pub holds_passes : (test : Lit → Bool) (lits : List Lit) (lit : Lit) → list_all test lits ≡ true → holds lits lit ≡ true → test lit ≡ true
holds_passes test [] lit all there = absurd (true≢false (sym there))
holds_passes test (first ∷ lits) lit all there = by (same_lit first lit) refl there (holds_passes test lits lit (both_true (test first) (list_all test lits) all).1)
  where
    by : (same : Bool) → same_lit first lit ≡ same → (same || holds lits lit) ≡ true → (holds lits lit ≡ true → test lit ≡ true) → test lit ≡ true
    by true is there go = ap test (sym ((lits_equal first lit).0 is)) ∙ (both_true (test first) (list_all test lits) all).0
    by false is there go = go there

pub part_passes : (test : Lit → Bool) (part whole : List Lit) → list_all test whole ≡ true → is_part part whole ≡ true → list_all test part ≡ true
part_passes test [] whole all is = refl
part_passes test (lit ∷ part) whole all is =
    let there = both_true (holds whole lit) (is_part part whole) is in
    rw (holds_passes test whole lit all there.0, part_passes test part whole all there.1) refl
