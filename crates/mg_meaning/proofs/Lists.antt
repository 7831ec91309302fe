-- Elements of lists, by cases on the list, and of lists that are mapped, joined or filtered.
use Rattle.std.proofs.Common.{◌≡◌, ◌≢◌, ℕ, zero, suc, ◌<◌, List, [], ◌∷◌, ◌++◌, map, length, get_or, Option, Some, None, slice_get, All, Contains, refl, sym, ap, subst, ◌∙◌, ◌⊎◌, inl, inr, arith}
use Rattle.std.specs.List.{flat_map, filter_map, cons_option, AllPairs}
use Rattle.std.proofs.lemmas.Option.{slice_get_within, get_or_from_slice_get}
use Rattle.std.proofs.lemmas.List.Kept.{AllPairs-cons}
use Rattle.std.proofs.lemmas.List.Elements.{All-cons}

module _ {X : Type 0} where
  -- an element is the first or one of the rest
  pub Contains-cases : (x : X) (xs : List X) (y : X) → Contains (x ∷ xs) y → (x ≡ y) ⊎ Contains xs y
  Contains-cases x xs y (zero, within, is) = inl is
  Contains-cases x xs y (suc k, within, is) = inr (k, omega arith, is)

  pub Contains-first : (x : X) (xs : List X) → Contains (x ∷ xs) x
  Contains-first x xs = (zero, omega arith, refl)

  pub Contains-later : (x : X) (xs : List X) (y : X) → Contains xs y → Contains (x ∷ xs) y
  Contains-later x xs y (k, within, is) = (suc k, omega arith, is)

  pub Contains-none : (y : X) → Contains [] y → ⊥
  Contains-none y (k, within, is) = omega arith

  -- an element by recursion on the list
  abbrev pub Among : List X → X → Type 0
  Among [] y = ⊥
  Among (x ∷ xs) y = (x ≡ y) ⊎ Among xs y

  pub among_from : (xs : List X) (y : X) → Contains xs y → Among xs y
  among_from [] y there = Contains-none y there
  among_from (x ∷ xs) y there = elim (Contains-cases x xs y there) [
    | inl same ↦ inl same
    | inr later ↦ inr (among_from xs y later)
  ]

  pub contains_from : (xs : List X) (y : X) → Among xs y → Contains xs y
  contains_from [] y there = absurd there
  contains_from (x ∷ xs) y (inl same) = subst (λ one. Contains (x ∷ xs) one) same (Contains-first x xs)
  contains_from (x ∷ xs) y (inr later) = Contains-later x xs y (contains_from xs y later)

  pub among-append : (xs ys : List X) (z : X) → Among (xs ++ ys) z → Among xs z ⊎ Among ys z
  among-append [] ys z there = inr there
  among-append (x ∷ xs) ys z (inl same) = inl (inl same)
  among-append (x ∷ xs) ys z (inr later) = elim (among-append xs ys z later) [
    | inl front ↦ inl (inr front)
    | inr back ↦ inr back
  ]

  pub among_left : (xs ys : List X) (z : X) → Among xs z → Among (xs ++ ys) z
  among_left [] ys z there = absurd there
  among_left (x ∷ xs) ys z (inl same) = inl same
  among_left (x ∷ xs) ys z (inr later) = inr (among_left xs ys z later)

  pub among_right : (xs ys : List X) (z : X) → Among ys z → Among (xs ++ ys) z
  among_right [] ys z there = there
  among_right (x ∷ xs) ys z there = inr (among_right xs ys z there)

  -- no element is equal to one after it
  abbrev pub Apart : List X → Type 0
  Apart [] = Unit {0}
  Apart (x ∷ xs) = (Among xs x → ⊥) × Apart xs

  pub pairs_from_apart : (xs : List X) → Apart xs → AllPairs (λ x y. x ≢ y) xs
  pairs_from_apart [] apart = λ i j d below within. absurd (omega arith)
  pairs_from_apart (x ∷ xs) (none, apart) = AllPairs-cons (λ a b. a ≢ b) x xs
      (λ k d within same. none (subst (Among xs) (sym same) (among_from xs (get_or xs k d) (k, within, get_same xs k within d))))
      (pairs_from_apart xs apart)
    where
      get_same : (ys : List X) (k : ℕ) → k < length ys → (d : X) → get_or ys k (get_or ys k d) ≡ get_or ys k d
      get_same [] k within d = absurd (omega arith)
      get_same (y ∷ ys) zero within d = refl
      get_same (y ∷ ys) (suc k) within d = get_same ys k (omega arith) d

  pub apart_from_pairs : (xs : List X) → AllPairs (λ x y. x ≢ y) xs → Apart xs
  apart_from_pairs [] pairs = tt
  apart_from_pairs (x ∷ xs) pairs = (
    (λ there. let (k, within, is) = contains_from xs x there in pairs zero (suc k) x (omega arith) (omega arith) (sym is)),
    apart_from_pairs xs (λ i j d below within. pairs (suc i) (suc j) d (omega arith) (omega arith)),
  )

  pub apart-append : (xs ys : List X) → Apart xs → Apart ys → ((z : X) → Among xs z → Among ys z → ⊥) → Apart (xs ++ ys)
  apart-append [] ys one two never = two
  apart-append (x ∷ xs) ys (none, one) two never = (
    (λ there. elim (among-append xs ys x there) [
      | inl front ↦ none front
      | inr back ↦ never x (inl refl) back
    ]),
    apart-append xs ys one two (λ z front back. never z (inr front) back),
  )

module _ {X Y : Type 0} where
  pub among-map : (f : X → Y) (xs : List X) (y : Y) → Among (map f xs) y → (x : X) × Among xs x × (f x ≡ y)
  among-map f [] y there = absurd there
  among-map f (x ∷ xs) y (inl same) = (x, inl refl, same)
  among-map f (x ∷ xs) y (inr later) = let (found, there, is) = among-map f xs y later in (found, inr there, is)

  pub among_mapped : (f : X → Y) (xs : List X) (x : X) → Among xs x → Among (map f xs) (f x)
  among_mapped f [] x there = absurd there
  among_mapped f (first ∷ xs) x (inl same) = inl (ap f same)
  among_mapped f (first ∷ xs) x (inr later) = inr (among_mapped f xs x later)

  pub among-flat_map : (f : X → List Y) (xs : List X) (y : Y) → Among (flat_map f xs) y → (x : X) × Among xs x × Among (f x) y
  among-flat_map f [] y there = absurd there
  among-flat_map f (x ∷ xs) y there = elim (among-append (f x) (flat_map f xs) y there) [
    | inl front ↦ (x, inl refl, front)
    | inr back ↦ let (found, among, is) = among-flat_map f xs y back in (found, inr among, is)
  ]

  pub among_flat_mapped : (f : X → List Y) (xs : List X) (x : X) (y : Y) → Among xs x → Among (f x) y → Among (flat_map f xs) y
  among_flat_mapped f [] x y there is = absurd there
  among_flat_mapped f (first ∷ xs) x y (inl same) is = among_left (f first) (flat_map f xs) y (subst (λ one. Among (f one) y) (sym same) is)
  among_flat_mapped f (first ∷ xs) x y (inr later) is = among_right (f first) (flat_map f xs) y (among_flat_mapped f xs x y later is)

  pub among-filter_map : (f : X → Option Y) (xs : List X) (y : Y) → Among (filter_map f xs) y → (x : X) × Among xs x × (f x ≡ Some y)
  among-filter_map f [] y there = absurd there
  among-filter_map f (x ∷ xs) y there = by (f x) refl there (among-filter_map f xs y)
    where
      by : (answer : Option Y) → f x ≡ answer → Among (cons_option answer (filter_map f xs)) y → (Among (filter_map f xs) y → (found : X) × Among xs found × (f found ≡ Some y))
          → (found : X) × Among (x ∷ xs) found × (f found ≡ Some y)
      by None is later go = let (found, among, gives) = go later in (found, inr among, gives)
      by (Some z) is (inl same) go = (x, inl refl, is ∙ ap Some same)
      by (Some z) is (inr later) go = let (found, among, gives) = go later in (found, inr among, gives)

  pub among_filter_mapped : (f : X → Option Y) (xs : List X) (x : X) (y : Y) → Among xs x → f x ≡ Some y → Among (filter_map f xs) y
  among_filter_mapped f [] x y there is = absurd there
  among_filter_mapped f (first ∷ xs) x y (inl same) is = rw (ap f same ∙ is) (inl refl)
  among_filter_mapped f (first ∷ xs) x y (inr later) is = by (f first) (among_filter_mapped f xs x y later is)
    where
      by : (answer : Option Y) → Among (filter_map f xs) y → Among (cons_option answer (filter_map f xs)) y
      by None go = go
      by (Some z) go = inr go

  -- apart where what is made tells what it was made from
  pub apart-filter_map : (f : X → Option Y) (xs : List X) → Apart xs → ((a b : X) (y : Y) → f a ≡ Some y → f b ≡ Some y → a ≡ b) → Apart (filter_map f xs)
  apart-filter_map f [] apart tells = tt
  apart-filter_map f (x ∷ xs) (none, apart) tells = by (f x) refl (apart-filter_map f xs apart tells)
    where
      by : (answer : Option Y) → f x ≡ answer → Apart (filter_map f xs) → Apart (cons_option answer (filter_map f xs))
      by None is rest = rest
      by (Some y) is rest = (
        (λ there. let (found, among, gives) = among-filter_map f xs y there in none (subst (Among xs) (tells found x y gives is) among)),
        rest,
      )

  pub apart-flat_map : (f : X → List Y) (xs : List X) → Apart xs → ((x : X) → Among xs x → Apart (f x)) → ((a b : X) (y : Y) → Among xs a → Among xs b → Among (f a) y → Among (f b) y → a ≡ b) → Apart (flat_map f xs)
  apart-flat_map f [] apart each tells = tt
  apart-flat_map f (x ∷ xs) (none, apart) each tells =
      apart-append (f x) (flat_map f xs) (each x (inl refl)) (apart-flat_map f xs apart (λ one among. each one (inr among)) (λ a b y p q. tells a b y (inr p) (inr q)))
      (λ y front back. let (found, among, is) = among-flat_map f xs y back in none (subst (Among xs) (tells found x y (inr among) (inl refl) is front) among))

-- what holds of each element holds of the one at a place
pub All-at : {X : Type 0} (P : X → Type 0) (xs : List X) (place : ℕ) (x : X) → All P xs → slice_get xs place ≡ Some x → P x
All-at P xs place x all at = subst P (get_or_from_slice_get xs place x x at) (all place x (slice_get_within xs place x at))

-- what holds of each member holds of all
pub all_among : {X : Type 0} (P : X → Type 0) (xs : List X) → ((x : X) → Among xs x → P x) → All P xs
all_among P [] each = λ k d within. absurd (omega arith)
all_among P (x ∷ xs) each = All-cons P x xs (each x (inl refl)) (all_among P xs (λ y there. each y (inr there)))
