-- Two fronts of one text, and bytes that are told apart.
use Rattle.std.proofs.Common.{◌≡◌, ◌⊎◌, inl, inr, ℕ, Bool, true, false, true≢false, ◌||◌, ◌==◌, List, [], ◌∷◌, ◌++◌, refl, sym, ap, ◌∙◌}
use Rattle.std.proofs.lemmas.Bool.{eqb-true}

pub heads : {x y : ℕ} {xs ys : List ℕ} → x ∷ xs ≡ y ∷ ys → x ≡ y
heads e = cc

pub tails : {x y : ℕ} {xs ys : List ℕ} → x ∷ xs ≡ y ∷ ys → xs ≡ ys
tails e = cc

pub nothing : {x : ℕ} {xs : List ℕ} → [] ≡ x ∷ xs → ⊥
nothing e = cc

-- one of the two goes further
abbrev pub Longer : List ℕ → List ℕ → List ℕ → List ℕ → Type 0
Longer front rest other left = (more : List ℕ) × (other ≡ front ++ more) × (rest ≡ more ++ left)

longer-cons : (x y : ℕ) (front rest other left : List ℕ) → x ≡ y → Longer front rest other left → Longer (x ∷ front) rest (y ∷ other) left
longer-cons x y front rest other left same (more, is, rests) = (more, (λ i. sym same i ∷ is i), rests)

pub fronts : (front rest other left : List ℕ) → front ++ rest ≡ other ++ left → Longer front rest other left ⊎ Longer other left front rest
fronts [] rest other left e = inl (other, refl, e)
fronts (x ∷ front) rest [] left e = inr (x ∷ front, refl, sym e)
fronts (x ∷ front) rest (y ∷ other) left e = by (fronts front rest other left (tails e))
  where
    by : Longer front rest other left ⊎ Longer other left front rest → Longer (x ∷ front) rest (y ∷ other) left ⊎ Longer (y ∷ other) left (x ∷ front) rest
    by (inl longer) = inl (longer-cons x y front rest other left (heads e) longer)
    by (inr longer) = inr (longer-cons y x other left front rest (sym (heads e)) longer)

-- a test tells two bytes apart
pub tell : (test : ℕ → Bool) (b m : ℕ) → test b ≡ true → test m ≡ false → b ≡ m → ⊥
tell test b m passes never same = true≢false (sym passes ∙ ap test same ∙ never)

pub not-this : (test : ℕ → Bool) (b m : ℕ) → test b ≡ false → test m ≡ true → b == m ≡ false
not-this test b m never passes = by (b == m) refl
  where
    by : (t : Bool) → b == m ≡ t → t ≡ false
    by true e = absurd (tell test m b passes never (sym (eqb-true b m e)))
    by false e = refl

pub neither : (a b : Bool) → (a || b) ≡ false → (a ≡ false) × (b ≡ false)
neither true b e = absurd (true≢false e)
neither false b e = (refl, e)
