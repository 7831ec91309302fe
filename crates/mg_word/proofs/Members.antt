-- What membership in lists of literals says: parts, lists that meet, and lists joined end to end.
use Rattle.std.proofs.Common.{◌≡◌, Bool, true, false, true≢false, not, ◌&&◌, ◌||◌, List, [], ◌∷◌, ◌++◌, refl, sym, ap, ◌∙◌, ◌⊎◌, inl, inr}
use Rattle.std.specs.List.{list_all}
use Rattle.mg_word.specs.OrderLaws.{lits_equal}
use Rattle.mg_word.specs.Sets.{same_lit, holds, is_part, meets, is_clash_free}
use Rattle.mg_word.specs.Words.{complement_of}
use Rattle.mg_word.specs.declared.lit.Lit.{Lit}

pub two_cases : (b : Bool) → (b ≡ true) ⊎ (b ≡ false)
two_cases true = inl refl
two_cases false = inr refl

pub both_true : (a b : Bool) → (a && b) ≡ true → (a ≡ true) × (b ≡ true)
both_true true b e = (refl, e)
both_true false b e = absurd (true≢false (sym e))

pub and_true : (a b : Bool) → a ≡ true → b ≡ true → (a && b) ≡ true
and_true true b e f = f
and_true false b e f = e

pub either_true : (a b : Bool) → (a || b) ≡ true → (a ≡ true) ⊎ (b ≡ true)
either_true true b e = inl refl
either_true false b e = inr e

pub or_true : (a b : Bool) → (a ≡ true) ⊎ (b ≡ true) → (a || b) ≡ true
or_true true b e = refl
or_true false b (inl e) = absurd (true≢false (sym e))
or_true false b (inr e) = e

pub both_false : (a b : Bool) → (a || b) ≡ false → (a ≡ false) × (b ≡ false)
both_false false b e = (refl, e)
both_false true b e = absurd (true≢false e)

pub or_false : (a b : Bool) → a ≡ false → b ≡ false → (a || b) ≡ false
or_false true b e f = e
or_false false b e f = f

pub not_true : (b : Bool) → not b ≡ true → b ≡ false
not_true true e = absurd (true≢false (sym e))
not_true false e = refl

pub not_false : (b : Bool) → b ≡ false → not b ≡ true
not_false b e = ap not e

pub never_true : (b : Bool) → (b ≡ true → ⊥) → b ≡ false
never_true true never = absurd (never refl)
never_true false never = refl

pub never_false : (b : Bool) → (b ≡ false → ⊥) → b ≡ true
never_false true never = refl
never_false false never = absurd (never refl)

pub same_tests : (a b : Bool) → (a ≡ true → b ≡ true) → (b ≡ true → a ≡ true) → a ≡ b
same_tests true b f g = sym (f refl)
same_tests false true f g = g refl
same_tests false false f g = refl

pub lit_is_itself : (lit : Lit) → same_lit lit lit ≡ true
lit_is_itself lit = (lits_equal lit lit).1 refl

-- a literal of a list is the first or one of the rest
pub holds_cases : (first : Lit) (lits : List Lit) (lit : Lit) → holds (first ∷ lits) lit ≡ true → (first ≡ lit) ⊎ (holds lits lit ≡ true)
holds_cases first lits lit there = elim (either_true (same_lit first lit) (holds lits lit) there) [
  | inl same ↦ inl ((lits_equal first lit).0 same)
  | inr later ↦ inr later
]

pub holds_first : (lit : Lit) (lits : List Lit) → holds (lit ∷ lits) lit ≡ true
holds_first lit lits = or_true (same_lit lit lit) (holds lits lit) (inl (lit_is_itself lit))

pub holds_later : (first : Lit) (lits : List Lit) (lit : Lit) → holds lits lit ≡ true → holds (first ∷ lits) lit ≡ true
holds_later first lits lit there = or_true (same_lit first lit) (holds lits lit) (inr there)

pub holds-append : (xs ys : List Lit) (lit : Lit) → holds (xs ++ ys) lit ≡ (holds xs lit || holds ys lit)
holds-append [] ys lit = refl
holds-append (x ∷ xs) ys lit = by (same_lit x lit) (holds-append xs ys lit)
  where
    by : (same : Bool) → holds (xs ++ ys) lit ≡ (holds xs lit || holds ys lit) → (same || holds (xs ++ ys) lit) ≡ ((same || holds xs lit) || holds ys lit)
    by true e = refl
    by false e = e

pub holds_left : (xs ys : List Lit) (lit : Lit) → holds xs lit ≡ true → holds (xs ++ ys) lit ≡ true
holds_left xs ys lit there = holds-append xs ys lit ∙ or_true (holds xs lit) (holds ys lit) (inl there)

pub holds_right : (xs ys : List Lit) (lit : Lit) → holds ys lit ≡ true → holds (xs ++ ys) lit ≡ true
holds_right xs ys lit there = holds-append xs ys lit ∙ or_true (holds xs lit) (holds ys lit) (inr there)

-- a part is what is held lit by lit
pub part_holds : (part whole : List Lit) (lit : Lit) → is_part part whole ≡ true → holds part lit ≡ true → holds whole lit ≡ true
part_holds [] whole lit is there = absurd (true≢false (sym there))
part_holds (first ∷ part) whole lit is there =
    let each = both_true (holds whole first) (is_part part whole) is in
    elim (holds_cases first part lit there) [
      | inl same ↦ ap (holds whole) (sym same) ∙ each.0
      | inr later ↦ part_holds part whole lit each.1 later
    ]

pub part_from : (part whole : List Lit) → ((lit : Lit) → holds part lit ≡ true → holds whole lit ≡ true) → is_part part whole ≡ true
part_from [] whole each = refl
part_from (first ∷ part) whole each =
    and_true (holds whole first) (is_part part whole) (each first (holds_first first part)) (part_from part whole (λ lit there. each lit (holds_later first part lit there)))

pub part_of_itself : (lits : List Lit) → is_part lits lits ≡ true
part_of_itself lits = part_from lits lits (λ lit there. there)

-- a part of a part
pub part_of_part : (part middle whole : List Lit) → is_part part middle ≡ true → is_part middle whole ≡ true → is_part part whole ≡ true
part_of_part part middle whole one two = part_from part whole (λ lit there. part_holds middle whole lit two (part_holds part middle lit one there))

pub part-append : (xs ys whole : List Lit) → is_part xs whole ≡ true → is_part ys whole ≡ true → is_part (xs ++ ys) whole ≡ true
part-append [] ys whole one two = two
part-append (x ∷ xs) ys whole one two =
    let each = both_true (holds whole x) (is_part xs whole) one in
    and_true (holds whole x) (is_part (xs ++ ys) whole) each.0 (part-append xs ys whole each.1 two)

-- lists meet where some literal is in both
pub meets_at : (some whole : List Lit) (lit : Lit) → holds some lit ≡ true → holds whole lit ≡ true → meets some whole ≡ true
meets_at [] whole lit there here = absurd (true≢false (sym there))
meets_at (first ∷ some) whole lit there here =
    or_true (holds whole first) (meets some whole) (elim (holds_cases first some lit there) [
      | inl same ↦ inl (ap (holds whole) same ∙ here)
      | inr later ↦ inr (meets_at some whole lit later here)
    ])

pub meets_where : (some whole : List Lit) → meets some whole ≡ true → (lit : Lit) × (holds some lit ≡ true) × (holds whole lit ≡ true)
meets_where [] whole e = absurd (true≢false (sym e))
meets_where (first ∷ some) whole e = elim (either_true (holds whole first) (meets some whole) e) [
  | inl here ↦ (first, holds_first first some, here)
  | inr later ↦
      let found = meets_where some whole later in
      (found.0, holds_later first some found.0 found.1, found.2)
]

-- what is in a list that does not meet a set is not in the set
pub not_met : (some whole : List Lit) (lit : Lit) → meets some whole ≡ false → holds some lit ≡ true → holds whole lit ≡ false
not_met some whole lit none there = never_true (holds whole lit) (λ here. true≢false (sym (meets_at some whole lit there here) ∙ none))

pub none_met : (some whole : List Lit) → ((lit : Lit) → holds some lit ≡ true → holds whole lit ≡ false) → meets some whole ≡ false
none_met some whole none = never_true (meets some whole) (λ e. let found = meets_where some whole e in true≢false (sym found.2 ∙ none found.0 found.1))

-- a part of the one and of the other meet as they do
pub meets_more : (some more whole wider : List Lit) → is_part some more ≡ true → is_part whole wider ≡ true → meets some whole ≡ true → meets more wider ≡ true
meets_more some more whole wider one two e =
    let found = meets_where some whole e in
    meets_at more wider found.0 (part_holds some more found.0 one found.1) (part_holds whole wider found.0 two found.2)

pub clash_free_at : (lits : List Lit) (lit : Lit) → is_clash_free lits ≡ true → holds lits lit ≡ true → holds lits (complement_of lit) ≡ false
clash_free_at lits lit free there = go lits free there
  where
    go : (some : List Lit) → list_all (λ one. not (holds lits (complement_of one))) some ≡ true → holds some lit ≡ true → holds lits (complement_of lit) ≡ false
    go [] all at = absurd (true≢false (sym at))
    go (first ∷ some) all at =
        let each = both_true (not (holds lits (complement_of first))) (list_all (λ one. not (holds lits (complement_of one))) some) all in
        elim (holds_cases first some lit at) [
          | inl same ↦ ap (λ one. holds lits (complement_of one)) (sym same) ∙ not_true (holds lits (complement_of first)) each.0
          | inr later ↦ go some each.1 later
        ]

pub clash_free_from : (lits : List Lit) → ((lit : Lit) → holds lits lit ≡ true → holds lits (complement_of lit) ≡ false) → is_clash_free lits ≡ true
clash_free_from lits free = go lits free
  where
    go : (some : List Lit) → ((lit : Lit) → holds some lit ≡ true → holds lits (complement_of lit) ≡ false) → list_all (λ one. not (holds lits (complement_of one))) some ≡ true
    go [] each = refl
    go (first ∷ some) each =
        and_true (not (holds lits (complement_of first))) (list_all (λ one. not (holds lits (complement_of one))) some)
        (not_false (holds lits (complement_of first)) (each first (holds_first first some)))
        (go some (λ lit there. each lit (holds_later first some lit there)))

-- a part of a clash-free set is clash free
pub clash_free_part : (part whole : List Lit) → is_part part whole ≡ true → is_clash_free whole ≡ true → is_clash_free part ≡ true
clash_free_part part whole is free = clash_free_from part (λ lit there.
    never_true (holds part (complement_of lit)) (λ clash.
    true≢false (sym (part_holds part whole (complement_of lit) is clash) ∙ clash_free_at whole lit free (part_holds part whole lit is there))))
