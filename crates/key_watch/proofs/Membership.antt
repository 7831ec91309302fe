-- Numbers in lists.
use Rattle.std.proofs.Common.{◌≡◌, ◌≢◌, ℕ, zero, suc, ◌+◌, ◌-◌, ◌<◌, Bool, true, true≢false, nat_eq, eqb-true, eq-eqb, List, [], ◌∷◌, ◌++◌, length, get_or, slice_get, slice_set, Some, refl, sym, ap, subst, ◌∙◌, ◌⊎◌, inl, inr, arith}
use Rattle.std.specs.List.{list_all}
use Rattle.std.proofs.lemmas.Bool.{cases_lt}
use Rattle.std.proofs.lemmas.Option.{slice_get-get_or, get_or_from_slice_get, slice_get_within}
use Rattle.mg_word.proofs.Members.{and_true, both_true, either_true, or_true}
use Rattle.key_watch.specs.Owned.{has}
use Rattle.key_watch.specs.Watching.{Has}

module _ {X : Type 0} where
  pub same_some : (x y : X) → Some x ≡ Some y → x ≡ y
  same_some x y e = cc

  pub get_set_same : (xs : List X) (n : ℕ) (y : X) → n < length xs → slice_get (slice_set xs n y) n ≡ Some y
  get_set_same [] n y small = absurd (omega (arith, small))
  get_set_same (first ∷ xs) zero y small = refl
  get_set_same (first ∷ xs) (suc n) y small = get_set_same xs n y (omega (arith, small))

  pub get_set_other : (xs : List X) (n m : ℕ) (y : X) → m ≢ n → slice_get (slice_set xs n y) m ≡ slice_get xs m
  get_set_other [] n m y apart = refl
  get_set_other (first ∷ xs) zero zero y apart = absurd (apart refl)
  get_set_other (first ∷ xs) zero (suc m) y apart = refl
  get_set_other (first ∷ xs) (suc n) zero y apart = refl
  get_set_other (first ∷ xs) (suc n) (suc m) y apart = get_set_other xs n m y (λ e. apart (ap suc e))

  pub length-slice_set : (xs : List X) (n : ℕ) (y : X) → length (slice_set xs n y) ≡ length xs
  length-slice_set [] n y = refl
  length-slice_set (first ∷ xs) zero y = refl
  length-slice_set (first ∷ xs) (suc n) y = ap suc (length-slice_set xs n y)

  pub get_left : (xs ys : List X) (m : ℕ) (x : X) → slice_get xs m ≡ Some x → slice_get (xs ++ ys) m ≡ Some x
  get_left [] ys m x e = cc
  get_left (first ∷ xs) ys zero x e = e
  get_left (first ∷ xs) ys (suc m) x e = get_left xs ys m x e

  -- of a list with one more, the last or an earlier one
  pub get_more : (xs : List X) (y : X) (m : ℕ) (x : X) → slice_get (xs ++ y ∷ []) m ≡ Some x → (slice_get xs m ≡ Some x) ⊎ ((m ≡ length xs) × (x ≡ y))
  get_more [] y zero x e = inr (refl, sym (same_some y x e))
  get_more [] y (suc m) x e = cc
  get_more (first ∷ xs) y zero x e = inl e
  get_more (first ∷ xs) y (suc m) x e = elim (get_more xs y m x e) [ inl old ↦ inl old | inr (at, is) ↦ inr (ap suc at, is) ]

  pub get_last : (xs : List X) (y : X) → slice_get (xs ++ y ∷ []) (length xs) ≡ Some y
  get_last [] y = refl
  get_last (first ∷ xs) y = get_last xs y

pub has_there : (xs : List ℕ) (x : ℕ) → Has xs x → (k : ℕ) × (slice_get xs k ≡ Some x)
has_there [] x e = absurd (true≢false (sym e))
has_there (y ∷ xs) x e = elim (either_true (nat_eq y x) (has nat_eq xs x) e) [
  | inl here ↦ (0, ap Some (eqb-true y x here))
  | inr later ↦ (let (k, is) = has_there xs x later in (suc k, is))
]

pub there_has : (xs : List ℕ) (k x : ℕ) → slice_get xs k ≡ Some x → Has xs x
there_has [] k x e = cc
there_has (y ∷ xs) zero x e = or_true (nat_eq y x) (has nat_eq xs x) (inl (eq-eqb y x (same_some y x e)))
there_has (y ∷ xs) (suc k) x e = or_true (nat_eq y x) (has nat_eq xs x) (inr (there_has xs k x e))

pub has_left : (xs ys : List ℕ) (x : ℕ) → Has xs x → Has (xs ++ ys) x
has_left xs ys x there = let (k, is) = has_there xs x there in there_has (xs ++ ys) k x (get_left xs ys k x is)

pub has_last : (xs : List ℕ) (x : ℕ) → Has (xs ++ x ∷ []) x
has_last xs x = there_has (xs ++ x ∷ []) (length xs) x (get_last xs x)

pub has_more : (xs : List ℕ) (y x : ℕ) → Has (xs ++ y ∷ []) x → Has xs x ⊎ (y ≡ x)
has_more xs y x there = let (k, is) = has_there (xs ++ y ∷ []) x there in elim (get_more xs y k x is) [
  | inl old ↦ inl (there_has xs k x old)
  | inr (at, same) ↦ inr (sym same)
]

-- what holds of each, by a test of all
pub each_of : (p : ℕ → Bool) (xs : List ℕ) → list_all p xs ≡ true → (x : ℕ) → Has xs x → p x ≡ true
each_of p [] all x there = absurd (true≢false (sym there))
each_of p (y ∷ xs) all x there =
    let both = both_true (p y) (list_all p xs) all in
    elim (either_true (nat_eq y x) (has nat_eq xs x) there) [
      | inl here ↦ subst (λ z. p z ≡ true) (eqb-true y x here) both.0
      | inr later ↦ each_of p xs both.1 x later
    ]

pub all_of : (p : ℕ → Bool) (xs : List ℕ) → ((x : ℕ) → Has xs x → p x ≡ true) → list_all p xs ≡ true
all_of p [] each = refl
all_of p (y ∷ xs) each = and_true (p y) (list_all p xs) (each y (there_has (y ∷ xs) 0 y refl)) (all_of p xs (λ x there. each x (or_true (nat_eq y x) (has nat_eq xs x) (inr there))))

-- the last element in the place of one that is taken off
pub left_others : (old new : List ℕ) (at count : ℕ) → count ≡ length old → at < length old → length new + 1 ≡ length old
    → ((d : ℕ) → at + 1 < count → get_or new at d ≡ get_or old (count - 1) d) → ((k d : ℕ) → k ≢ at → k + 1 < count → get_or new k d ≡ get_or old k d)
    → (set : ℕ) → slice_get old at ≢ Some set → Has old set → Has new set
left_others old new at count counted small shorter taken kept set apart there =
    let (k, is) = has_there old set there in
    let within = slice_get_within old k set is in
    let other : k ≢ at = λ e. apart (ap (slice_get old) (sym e) ∙ is) in
    elim (cases_lt (k + 1) count) [
      | inl front ↦
          let value : get_or new k set ≡ set = kept k set other front ∙ get_or_from_slice_get old k set set is in
          there_has new k set (slice_get-get_or new k set (omega (arith, front, counted, shorter)) ∙ ap Some value)
      | inr last ↦
          let k_is : k ≡ count - 1 = omega (arith, last, within, counted) in
          let at_small : at + 1 < count = (elim (cases_lt (at + 1) count) [ inl front ↦ front | inr back ↦ absurd (other (omega (arith, k_is, back, small, counted, within))) ]) in
          let value : get_or new at set ≡ set = taken set at_small ∙ (ap (λ n. get_or old n set) (sym k_is) ∙ get_or_from_slice_get old k set set is) in
          there_has new at set (slice_get-get_or new at set (omega (arith, at_small, counted, shorter)) ∙ ap Some value)
    ]
