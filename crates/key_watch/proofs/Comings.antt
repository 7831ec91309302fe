-- When keys come to a path that grows and is cut.
use Rattle.std.proofs.Common.{◌≡◌, ℕ, zero, suc, ◌<◌, Bool, true, false, true≢false, cond, nat_eq, nat_lt, ◌||◌, not, eqb-true, List, [], ◌∷◌, ◌++◌, length, take, Option, Some, None, is_some, option_map, refl, sym, ap, subst, ◌∙◌, inl, inr, arith, if◌then◌else◌}
use Rattle.std.proofs.lemmas.Bool.{cases_lt, le-leb, le-ltb, leb-false, leb-true, lt-ltb}
use Rattle.mg_word.proofs.Members.{either_true, or_true}
use Rattle.key_watch.specs.Owned.{has}
use Rattle.key_watch.specs.Watching.{Has, HaveArrived, IsWaiting, came, has_arrived, is_by, missing_in, place_on}
use Rattle.key_watch.proofs.Membership.{has_last, has_left, has_more, there_has}

-- ---- who came first

pub by_itself : (one : Option ℕ) → is_by one one ≡ true
by_itself None = refl
by_itself (Some at) = le-leb at at (omega arith)

pub by_total : (one other : Option ℕ) → is_by one other ≡ false → is_by other one ≡ true
by_total None None e = refl
by_total (Some early) None e = absurd (true≢false e)
by_total None (Some late) e = refl
by_total (Some early) (Some late) e = let less = leb-false early late e in le-leb late early (omega (arith, less))

pub by_trans : (one two three : Option ℕ) → is_by one two ≡ true → is_by two three ≡ true → is_by one three ≡ true
by_trans one two None e f = refl
by_trans one None (Some c) e f = absurd (true≢false (sym f))
by_trans None (Some b) (Some c) e f = absurd (true≢false (sym e))
by_trans (Some a) (Some b) (Some c) e f = let low = leb-true a b e in let high = leb-true b c f in le-leb a c (omega (arith, low, high))

-- the later of two
abbrev pub later_of : List (Option ℕ) → Option ℕ → ℕ → ℕ
later_of places None key = key
later_of places (Some held) key = if is_by (came places key) (came places held) then held else key

-- with one key more
pub waits_more : (places : List (Option ℕ)) (keys : List ℕ) (last : Option ℕ) (key : ℕ) → IsWaiting places keys last → IsWaiting places (keys ++ key ∷ []) (Some (later_of places last key))
waits_more places keys None key none = (
  has_last keys key,
  λ one there. elim (has_more keys key one there) [
    | inl old ↦ absurd (true≢false (sym old ∙ ap (λ ks. has nat_eq ks one) none))
    | inr same ↦ subst (λ k. is_by (came places k) (came places key) ≡ true) same (by_itself (came places key))
  ],
)
waits_more places keys (Some held) key waits = by (is_by (came places key) (came places held)) refl
  where
    by : (early : Bool) → is_by (came places key) (came places held) ≡ early → IsWaiting places (keys ++ key ∷ []) (Some (if early then held else key))
    by true is = (
      has_left keys (key ∷ []) held waits.0,
      λ one there. elim (has_more keys key one there) [
        | inl old ↦ waits.1 one old
        | inr same ↦ subst (λ k. is_by (came places k) (came places held) ≡ true) same is
      ],
    )
    by false is = (
      has_last keys key,
      λ one there. elim (has_more keys key one there) [
        | inl old ↦ by_trans (came places one) (came places held) (came places key) (waits.1 one old) (by_total (came places key) (came places held) is)
        | inr same ↦ subst (λ k. is_by (came places k) (came places key) ≡ true) same (by_itself (came places key))
      ],
    )

-- ---- first indices

abbrev pub joined : Option ℕ → ℕ → Bool → Option ℕ
joined (Some at) count same = Some at
joined None count true = Some count
joined None count false = None

pub place_more : (path : List ℕ) (now key : ℕ) → place_on (path ++ now ∷ []) key ≡ joined (place_on path key) (length path) (nat_eq now key)
place_more [] now key = by (nat_eq now key)
  where
    by : (same : Bool) → (if same then Some 0 else None) ≡ joined None 0 same
    by true = refl
    by false = refl
place_more (held ∷ path) now key = by (nat_eq held key) (place_on path key) (nat_eq now key) (place_more path now key)
  where
    by : (here : Bool) (at : Option ℕ) (same : Bool) → place_on (path ++ now ∷ []) key ≡ joined at (length path) same
        → (if here then Some 0 else option_map suc (place_on (path ++ now ∷ []) key)) ≡ joined (if here then Some 0 else option_map suc at) (suc (length path)) same
    by true at same e = refl
    by false (Some at) same e = ap (option_map suc) e
    by false None true e = ap (option_map suc) e
    by false None false e = ap (option_map suc) e

pub place_within : (path : List ℕ) (key at : ℕ) → place_on path key ≡ Some at → at < length path
place_within [] key at e = let bad : ⊥ = cc in absurd bad
place_within (held ∷ path) key at e = by (nat_eq held key) (place_on path key) (place_within path key) e
  where
    by : (here : Bool) (later : Option ℕ) → ((at : ℕ) → later ≡ Some at → at < length path) → (if here then Some 0 else option_map suc later) ≡ Some at → at < length (held ∷ path)
    by true later is e = let zero_is : 0 ≡ at = cc in omega (arith, zero_is)
    by false None is e = let bad : ⊥ = cc in absurd bad
    by false (Some inner) is e = let more : suc inner ≡ at = cc in let small = is inner refl in omega (arith, more, small)

abbrev pub is_before : Option ℕ → ℕ → Bool
is_before None count = false
is_before (Some at) count = nat_lt at count

-- the first keys of the path have those that came before
pub front_has : (path : List ℕ) (count key : ℕ) → has nat_eq (take count path) key ≡ is_before (place_on path key) count
front_has path zero key = none (place_on path key)
  where
    none : (at : Option ℕ) → false ≡ is_before at 0
    none None = refl
    none (Some at) = sym (le-ltb at 0 (omega arith))
front_has [] (suc count) key = refl
front_has (held ∷ path) (suc count) key = by (nat_eq held key) (place_on path key) (front_has path count key)
  where
    by : (here : Bool) (at : Option ℕ) → has nat_eq (take count path) key ≡ is_before at count → (here || has nat_eq (take count path) key) ≡ is_before (if here then Some 0 else option_map suc at) (suc count)
    by true at e = sym (lt-ltb 0 (suc count) (omega arith))
    by false None e = e
    by false (Some at) e = e ∙ (elim (cases_lt at count) [
      | inl less ↦ lt-ltb at count less ∙ sym (lt-ltb (suc at) (suc count) (omega (arith, less)))
      | inr more ↦ le-ltb at count more ∙ sym (le-ltb (suc at) (suc count) (omega (arith, more)))
    ])

pub path_has : (path : List ℕ) (key : ℕ) → has nat_eq path key ≡ is_some (place_on path key)
path_has [] key = refl
path_has (held ∷ path) key = by (nat_eq held key) (place_on path key) (path_has path key)
  where
    by : (here : Bool) (at : Option ℕ) → has nat_eq path key ≡ is_some at → (here || has nat_eq path key) ≡ is_some (if here then Some 0 else option_map suc at)
    by true at e = refl
    by false None e = e
    by false (Some at) e = e

-- ---- what is missing

pub none_missing : (places : List (Option ℕ)) (now : ℕ) (keys : List ℕ) → missing_in places now keys ≡ None → HaveArrived places now keys
none_missing places now [] none key there = absurd (true≢false (sym there))
none_missing places now (first ∷ keys) none key there = by (has_arrived places now first) refl (none_missing places now keys) none
  where
    by : (arrived : Bool) → has_arrived places now first ≡ arrived → (missing_in places now keys ≡ None → HaveArrived places now keys) → cond (not arrived) (Some first) (missing_in places now keys) ≡ None → has_arrived places now key ≡ true
    by false is rest e = let bad : ⊥ = cc in absurd bad
    by true is rest e = elim (either_true (nat_eq first key) (has nat_eq keys key) there) [
      | inl here ↦ subst (λ k. has_arrived places now k ≡ true) (eqb-true first key here) is
      | inr later ↦ rest e key later
    ]

pub one_missing : (places : List (Option ℕ)) (now : ℕ) (keys : List ℕ) (key : ℕ) → missing_in places now keys ≡ Some key → Has keys key × (has_arrived places now key ≡ false)
one_missing places now [] key e = let bad : ⊥ = cc in absurd bad
one_missing places now (first ∷ keys) key e = by (has_arrived places now first) refl (one_missing places now keys key) e
  where
    by : (arrived : Bool) → has_arrived places now first ≡ arrived → (missing_in places now keys ≡ Some key → Has keys key × (has_arrived places now key ≡ false)) → cond (not arrived) (Some first) (missing_in places now keys) ≡ Some key → Has (first ∷ keys) key × (has_arrived places now key ≡ false)
    by false is rest e = let same : first ≡ key = cc in (there_has (first ∷ keys) 0 key (ap Some same), ap (has_arrived places now) (sym same) ∙ is)
    by true is rest e = let more = rest e in (or_true (nat_eq first key) (has nat_eq keys key) (inr more.0), more.1)
