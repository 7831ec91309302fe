-- A text is cut where a test first fails.
use Rattle.std.proofs.Common.{◌≡◌, ℕ, suc, ◌+◌, Bool, true, false, true≢false, not, cond, List, [], ◌∷◌, ◌++◌, take, drop, refl, sym, ap, ◌∙◌, subst, arith}
use Rattle.std.specs.List.{list_all, prefix_len}
use Rattle.std.proofs.lemmas.Bool.{and_parts, and_from, not-true}

-- the test fails at the first byte, if there is one
abbrev pub stops : (ℕ → Bool) → List ℕ → Bool
stops p [] = true
stops p (byte ∷ bytes) = not (p byte)

-- the longest front that passes, and the rest
pub record IsCut (p : ℕ → Bool) (bytes front rest : List ℕ) : Type 0 where
  pub all : list_all p front ≡ true
  pub split : front ++ rest ≡ bytes
  pub ends : stops p rest ≡ true

cut_here : (p : ℕ → Bool) (byte : ℕ) (bytes : List ℕ) (test : Bool) → p byte ≡ test → IsCut p bytes (take (prefix_len p bytes) bytes) (drop (prefix_len p bytes) bytes)
    → IsCut p (byte ∷ bytes) (take (cond test (1 + prefix_len p bytes) 0) (byte ∷ bytes)) (drop (cond test (1 + prefix_len p bytes) 0) (byte ∷ bytes))
cut_here p byte bytes true is rest =
    let count : 1 + prefix_len p bytes ≡ suc (prefix_len p bytes) = omega arith in
    subst (λ n. IsCut p (byte ∷ bytes) (take n (byte ∷ bytes)) (drop n (byte ∷ bytes))) (sym count)
    (record { all = and_from (p byte) (list_all p (take (prefix_len p bytes) bytes)) is rest.all; split = ap (λ l. byte ∷ l) rest.split; ends = rest.ends })
cut_here p byte bytes false is rest = record { all = refl; split = refl; ends = ap not is }

-- the number of bytes that pass is the length of that front
pub cut_at : (p : ℕ → Bool) (bytes : List ℕ) → IsCut p bytes (take (prefix_len p bytes) bytes) (drop (prefix_len p bytes) bytes)
cut_at p [] = record { all = refl; split = refl; ends = refl }
cut_at p (byte ∷ bytes) = cut_here p byte bytes (p byte) refl (cut_at p bytes)

-- there is one such cut
pub cut_unique : (p : ℕ → Bool) (f r g s : List ℕ) → list_all p f ≡ true → list_all p g ≡ true → stops p r ≡ true → stops p s ≡ true → f ++ r ≡ g ++ s → (f ≡ g) × (r ≡ s)
cut_unique p [] r [] s af ag er es same = (refl, same)
cut_unique p [] [] (y ∷ g) s af ag er es same = cc
cut_unique p [] (x ∷ r) (y ∷ g) s af ag er es same =
    let first : x ≡ y = cc in
    absurd (true≢false (sym (ap p first ∙ (and_parts (p y) (list_all p g) ag).0) ∙ not-true (p x) er))
cut_unique p (x ∷ f) r [] [] af ag er es same = cc
cut_unique p (x ∷ f) r [] (y ∷ s) af ag er es same =
    let first : y ≡ x = cc in
    absurd (true≢false (sym (ap p first ∙ (and_parts (p x) (list_all p f) af).0) ∙ not-true (p y) es))
cut_unique p (x ∷ f) r (y ∷ g) s af ag er es same =
    let tails : f ++ r ≡ g ++ s = cc in
    let rest = cut_unique p f r g s (and_parts (p x) (list_all p f) af).1 (and_parts (p y) (list_all p g) ag).1 er es tails in
    let first : x ≡ y = cc in
    let fronts : f ≡ g = rest.0 in
    (cc, rest.1)
