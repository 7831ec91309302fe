-- How a text is split where a test first fails, and tests on its first byte.
use Rattle.std.proofs.Common.{◌≡◌, ℕ, ◌+◌, ◌≤◌, ◌<◌, Bool, true, false, not, cond, List, [], ◌∷◌, length, take, drop, slice_index_or, refl, sym, ap, ◌∙◌, subst, arith}
use Rattle.std.specs.List.{list_all, prefix_len}
use Rattle.std.proofs.lemmas.List.{take_all}
use Rattle.std.proofs.lemmas.List.Sums.{prefix_len-le-length}
use Rattle.mg_word.proofs.Members.{both_true, and_true}
use Rattle.ascii_text.proofs.Cuts.{IsCut, cut_at}

pub not_true : (a : Bool) → not a ≡ true → a ≡ false
not_true true holds = sym holds
not_true false holds = refl

-- the cut behind so many bytes
pub cut_len : (p : ℕ → Bool) (bytes : List ℕ) (count : ℕ) → count ≡ prefix_len p bytes → IsCut p bytes (take count bytes) (drop count bytes)
cut_len p bytes count is = subst (λ n. IsCut p bytes (take n bytes) (drop n bytes)) (sym is) (cut_at p bytes)

pub heads : {X : Type 0} (x y : X) (xs ys : List X) → x ∷ xs ≡ y ∷ ys → x ≡ y
heads x y xs ys same = cc

pub tails : {X : Type 0} (x y : X) (xs ys : List X) → x ∷ xs ≡ y ∷ ys → xs ≡ ys
tails x y xs ys same = cc

-- where the cut is at the end all bytes pass
pub cut_whole : (p : ℕ → Bool) (bytes : List ℕ) → prefix_len p bytes ≡ length bytes → list_all p bytes ≡ true
cut_whole p bytes whole = subst (λ l. list_all p l ≡ true) (take_all (length bytes) bytes (omega arith)) (cut_len p bytes (length bytes) (sym whole)).all

pub whole_cut : (p : ℕ → Bool) (bytes : List ℕ) → list_all p bytes ≡ true → prefix_len p bytes ≡ length bytes
whole_cut p [] all = refl
whole_cut p (byte ∷ bytes) all =
    let parts = both_true (p byte) (list_all p bytes) all in
    let rest = whole_cut p bytes parts.1 in
    ap (λ b. cond b (1 + prefix_len p bytes) 0) parts.0 ∙ omega (arith, rest)

-- a text that is not empty is its first byte and what is behind it
pub first_and_rest : (bytes : List ℕ) → 1 ≤ length bytes → bytes ≡ slice_index_or bytes 0 0 ∷ drop 1 bytes
first_and_rest [] some = absurd (omega arith)
first_and_rest (byte ∷ bytes) some = refl

pub no_bytes : (bytes : List ℕ) → length bytes < 1 → bytes ≡ []
no_bytes [] none = refl
no_bytes (byte ∷ bytes) none = absurd (omega arith)

pub all_weaker : (p q : ℕ → Bool) → ((byte : ℕ) → p byte ≡ true → q byte ≡ true) → (bytes : List ℕ) → list_all p bytes ≡ true → list_all q bytes ≡ true
all_weaker p q weaker [] all = refl
all_weaker p q weaker (byte ∷ bytes) all =
    let parts = both_true (p byte) (list_all p bytes) all in
    and_true (q byte) (list_all q bytes) (weaker byte parts.0) (all_weaker p q weaker bytes parts.1)

-- no more bytes pass than there are
pub cut_short : (p : ℕ → Bool) (bytes : List ℕ) (count : ℕ) → count ≡ prefix_len p bytes → count ≤ length bytes
cut_short p bytes count is = omega (arith, is, prefix_len-le-length p bytes)
