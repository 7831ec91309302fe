-- The orders of words and literals are total, and tell apart what is different.
use Rattle.std.specs.Prelude.{◌≡◌, ℕ, Bool, true, false, not, List, [], ◌∷◌, length, IsTrue}
use Rattle.std.proofs.Common.{refl, sym, ◌∙◌, ap}
use Rattle.std.specs.declared.cmp.Ordering.{Ordering}
use Rattle.std.specs.declared.cmp.Ordering.TheVariants.{Less, Equal, Greater}
use Rattle.std.specs.Ordering.{nat_cmp, bool_cmp, ordering_then, is_eq, eq_by_cmp}
use Rattle.std.specs.Cmp.{IsTotalOrder, then_total, on_total, nat_cmp_total, bool_cmp_total}
use Rattle.std.specs.Cmp.Lexicographic.{slice_cmp, lists_total}
use Rattle.std.proofs.lemmas.Cmp.{ranked, tied_itself}
use Rattle.mg_word.specs.Orders.{word_cmp, lit_cmp, lits_cmp}
use Rattle.mg_word.specs.Words.{complement_of}
use Rattle.mg_word.specs.declared.lit.Lit.{Lit}
use mathlib.Core.Bool.{beq}

pub word_total : IsTotalOrder word_cmp
word_total = then_total (on_total length nat_cmp_total) (lists_total nat_cmp_total)

pub lit_total : IsTotalOrder lit_cmp
lit_total = then_total (on_total (λ lit. lit.word) word_total) (on_total (λ lit. lit.negative) bool_cmp_total)

pub lits_total : IsTotalOrder lits_cmp
lits_total = lists_total lit_total

pub nat_same : (x y : ℕ) → nat_cmp x y ≡ Equal → x ≡ y
nat_same x y e = ranked x y Equal (sym e)

bool_same : (x y : Bool) → bool_cmp x y ≡ Equal → x ≡ y
bool_same false false e = refl
bool_same false true e = cc
bool_same true false e = cc
bool_same true true e = refl

-- of two answers, neither tells apart where both together do not
pub both_equal : (a b : Ordering) → ordering_then a b ≡ Equal → (a ≡ Equal) × (b ≡ Equal)
both_equal Less b e = cc
both_equal Equal b e = (refl, e)
both_equal Greater b e = cc

-- where an order of elements tells different ones apart, so does that of lists
pub slices_same : {A : Type 0} (cmp : A → A → Ordering) → ((x y : A) → cmp x y ≡ Equal → x ≡ y) → (xs ys : List A) → slice_cmp cmp xs ys ≡ Equal → xs ≡ ys
slices_same cmp same [] [] e = refl
slices_same cmp same [] (y ∷ ys) e = cc
slices_same cmp same (x ∷ xs) [] e = cc
slices_same cmp same (x ∷ xs) (y ∷ ys) e =
    let both = both_equal (cmp x y) (slice_cmp cmp xs ys) e in
    let first = same x y both.0 in
    let rest = slices_same cmp same xs ys both.1 in
    cc

pub word_same : (a b : List ℕ) → word_cmp a b ≡ Equal → a ≡ b
word_same a b e = slices_same nat_cmp nat_same a b (both_equal (nat_cmp (length a) (length b)) (slice_cmp nat_cmp a b) e).1

pub lit_same : (a b : Lit) → lit_cmp a b ≡ Equal → a ≡ b
lit_same a b e =
    let both = both_equal (word_cmp a.word b.word) (bool_cmp a.negative b.negative) e in
    let words = word_same a.word b.word both.0 in
    let signs = bool_same a.negative b.negative both.1 in
    λ i. record { negative = signs i; word = words i }

pub lits_same : (a b : List Lit) → lits_cmp a b ≡ Equal → a ≡ b
lits_same a b e = slices_same lit_cmp lit_same a b e

pub is_tie : (answer : Ordering) → is_eq answer ≡ true → answer ≡ Equal
is_tie Less e = cc
is_tie Equal e = refl
is_tie Greater e = cc

-- `==` at words holds exactly where they are the same
pub words_equal : (a b : List ℕ) → (eq_by_cmp word_cmp a b ≡ true → a ≡ b) × (a ≡ b → eq_by_cmp word_cmp a b ≡ true)
words_equal a b = (λ e. word_same a b (is_tie (word_cmp a b) e), λ e. ap (λ w. is_eq (word_cmp a w)) (sym e) ∙ ap is_eq (tied_itself word_total a))

-- `==` at literals holds exactly where they are the same
pub lits_equal : (a b : Lit) → (eq_by_cmp lit_cmp a b ≡ true → a ≡ b) × (a ≡ b → eq_by_cmp lit_cmp a b ≡ true)
lits_equal a b = (λ e. lit_same a b (is_tie (lit_cmp a b) e), λ e. ap (λ l. is_eq (lit_cmp a l)) (sym e) ∙ ap is_eq (tied_itself lit_total a))

signs_apart : (x y : Bool) → not (beq x y) ≡ true → x ≡ not y
signs_apart false false e = cc
signs_apart false true e = refl
signs_apart true false e = refl
signs_apart true true e = cc

-- where the signs differ, the words tell whether one literal is the other's complement
pub complement_exact : (a b : Lit) (same : Bool) → not (beq a.negative b.negative) ≡ true → same ≡ eq_by_cmp word_cmp a.word b.word → (IsTrue same → a ≡ complement_of b) × (a ≡ complement_of b → IsTrue same)
complement_exact a b same apart is = (
  λ e. let words : a.word ≡ b.word = (words_equal a.word b.word).0 (sym is ∙ e) in
      let signs = signs_apart a.negative b.negative apart in
      λ i. record { negative = signs i; word = words i },
  λ e. is ∙ (words_equal a.word b.word).1 (ap (λ l. l.word) e),
)
