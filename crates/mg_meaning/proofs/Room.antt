-- Different literals of at most so many symbols are few: each is a number to a base that the symbols are digits of.
use Rattle.std.proofs.Common.{◌≡◌, ℕ, zero, suc, ◌+◌, ◌-◌, ◌*◌, ◌^◌, ◌<◌, ◌≤◌, Bool, true, false, true≢false, List, [], ◌∷◌, map, length, nat_lt, refl, sym, ap, subst, inl, inr, arith, eqb, if◌then◌else◌}
use Rattle.std.specs.List.{list_all, list_any, IsDistinct, AllByRecursion}
use Rattle.std.proofs.Math.Nat.{pow-succ', one-le-pow}
use Rattle.std.proofs.lemmas.Nat.{same_from_place, mul-add-lt, mul-le, pow-add}
use Rattle.std.proofs.lemmas.Bool.{ltb-true, ne_eqb, eqb-true}
use Rattle.std.proofs.lemmas.Map.Steps.{length-le_from_distinct_below}
use Rattle.mg_word.specs.declared.lit.Lit.{Lit}
use Rattle.mg_word.proofs.Members.{both_true, either_true}
use Rattle.mg_meaning.proofs.Lists.{Among, Apart}

-- each symbol is below that number
abbrev pub all_below : ℕ → List ℕ → Bool
all_below symbols word = list_all (λ symbol. nat_lt symbol symbols) word

-- the word as a number to the base symbols + 1
abbrev word_number : ℕ → List ℕ → ℕ
word_number base [] = 0
word_number base (symbol ∷ word) = word_number base word * base + (symbol + 1)

word_number_below : (symbols : ℕ) (word : List ℕ) → all_below symbols word ≡ true → word_number (symbols + 1) word < (symbols + 1) ^ length word
word_number_below symbols [] each = one-le-pow zero (symbols + 1) (omega arith)
word_number_below symbols (symbol ∷ word) each =
    let parts = both_true (nat_lt symbol symbols) (all_below symbols word) each in
    let small : symbol + 1 < symbols + 1 = omega (arith, ltb-true symbol symbols parts.0) in
    subst (λ n. word_number (symbols + 1) word * (symbols + 1) + (symbol + 1) < n) (sym (pow-succ' (symbols + 1) (length word)))
    (mul-add-lt (word_number (symbols + 1) word) (symbols + 1) (symbol + 1) ((symbols + 1) ^ length word) (word_number_below symbols word parts.1) small)

word_number_same : (symbols : ℕ) (a b : List ℕ) → all_below symbols a ≡ true → all_below symbols b ≡ true → word_number (symbols + 1) a ≡ word_number (symbols + 1) b → a ≡ b
word_number_same symbols [] [] p q e = refl
word_number_same symbols [] (y ∷ b) p q e = absurd (omega (arith, e))
word_number_same symbols (x ∷ a) [] p q e = absurd (omega (arith, e))
word_number_same symbols (x ∷ a) (y ∷ b) p q e =
    let first = both_true (nat_lt x symbols) (all_below symbols a) p in
    let second = both_true (nat_lt y symbols) (all_below symbols b) q in
    let small : x + 1 < symbols + 1 = omega (arith, ltb-true x symbols first.0) in
    let little : y + 1 < symbols + 1 = omega (arith, ltb-true y symbols second.0) in
    let (rest, digit) = same_from_place (word_number (symbols + 1) a) (x + 1) (word_number (symbols + 1) b) (y + 1) (symbols + 1) small little e in
    let words : a ≡ b = word_number_same symbols a b first.1 second.1 rest in
    let same : x ≡ y = omega (arith, digit) in
    cc

-- more symbols leave more room
power_grows : (base i j : ℕ) → zero < base → i ≤ j → base ^ i ≤ base ^ j
power_grows base i j some less =
    let (d, sum) = difference i j less in
    let one = one-le-pow d base some in
    let product : base ^ i * 1 ≤ base ^ i * base ^ d = mul-le (base ^ i) 1 (base ^ i) (base ^ d) (omega arith) one in
    subst (λ n. base ^ i ≤ base ^ n) sum (subst (λ n. base ^ i ≤ n) (sym (pow-add base i d)) (omega (arith, product)))
  where
    difference : (i j : ℕ) → i ≤ j → (d : ℕ) × (i + d ≡ j)
    difference i j less = (j - i, omega arith)

-- the literal's symbols are below that number, and they are at most so many
pub record IsSmall (symbols weight : ℕ) (lit : Lit) : Type 0 where
  pub below : all_below symbols lit.word ≡ true
  pub short : length lit.word ≤ weight

abbrev sign_number : Bool → ℕ
sign_number negative = if negative then 1 else 0

sign_below : (negative : Bool) → sign_number negative < 2
sign_below true = omega arith
sign_below false = omega arith

sign_same : (a b : Bool) → sign_number a ≡ sign_number b → a ≡ b
sign_same true true e = refl
sign_same true false e = absurd (omega (arith, e))
sign_same false true e = absurd (omega (arith, e))
sign_same false false e = refl

abbrev lit_number : ℕ → Lit → ℕ
lit_number symbols lit = word_number (symbols + 1) lit.word * 2 + sign_number lit.negative

lit_number_below : (symbols weight : ℕ) (lit : Lit) → IsSmall symbols weight lit → lit_number symbols lit < 2 * (symbols + 1) ^ weight
lit_number_below symbols weight lit small =
    let own = word_number_below symbols lit.word small.below in
    let more = power_grows (symbols + 1) (length lit.word) weight (omega arith) small.short in
    mul-add-lt (word_number (symbols + 1) lit.word) 2 (sign_number lit.negative) ((symbols + 1) ^ weight) (omega (arith, own, more)) (sign_below lit.negative)

lit_number_same : (symbols weight : ℕ) (a b : Lit) → IsSmall symbols weight a → IsSmall symbols weight b → lit_number symbols a ≡ lit_number symbols b → a ≡ b
lit_number_same symbols weight a b p q e =
    let (words, signs) = same_from_place (word_number (symbols + 1) a.word) (sign_number a.negative) (word_number (symbols + 1) b.word) (sign_number b.negative) 2 (sign_below a.negative) (sign_below b.negative) e in
    let word : a.word ≡ b.word = word_number_same symbols a.word b.word p.below q.below words in
    let sign : a.negative ≡ b.negative = sign_same a.negative b.negative signs in
    λ i. record { negative = sign i; word = word i }

-- each literal of the list is small
abbrev pub AreSmall : ℕ → ℕ → List Lit → Type 0
AreSmall symbols weight lits = (lit : Lit) → Among lits lit → IsSmall symbols weight lit

numbers_apart : (symbols weight : ℕ) (first : Lit) (lits : List Lit) → IsSmall symbols weight first → AreSmall symbols weight lits → (Among lits first → ⊥) → AllByRecursion (λ n. eqb (lit_number symbols first) n ≡ false) (map (lit_number symbols) lits)
numbers_apart symbols weight first [] small each none = tt
numbers_apart symbols weight first (lit ∷ lits) small each none = (
  ne_eqb (lit_number symbols first) (lit_number symbols lit) (λ e. none (inl (sym (lit_number_same symbols weight first lit small (each lit (inl refl)) e)))),
  numbers_apart symbols weight first lits small (λ one there. each one (inr there)) (λ there. none (inr there)),
)

numbers_distinct : (symbols weight : ℕ) (lits : List Lit) → AreSmall symbols weight lits → Apart lits → IsDistinct eqb (map (lit_number symbols) lits)
unfolding IsDistinct
numbers_distinct symbols weight [] each apart = tt
numbers_distinct symbols weight (lit ∷ lits) each apart = (
  numbers_apart symbols weight lit lits (each lit (inl refl)) (λ one there. each one (inr there)) apart.0,
  numbers_distinct symbols weight lits (λ one there. each one (inr there)) apart.1,
)

numbers_below : (symbols weight : ℕ) (lits : List Lit) → AreSmall symbols weight lits → (q : ℕ) → list_any (eqb q) (map (lit_number symbols) lits) ≡ true → q < 2 * (symbols + 1) ^ weight
numbers_below symbols weight [] each q there = absurd (true≢false (sym there))
numbers_below symbols weight (lit ∷ lits) each q there = elim (either_true (eqb q (lit_number symbols lit)) (list_any (eqb q) (map (lit_number symbols) lits)) there) [
  | inl same ↦
      let is : q ≡ lit_number symbols lit = eqb-true q (lit_number symbols lit) same in
      subst (λ n. n < 2 * (symbols + 1) ^ weight) (sym is) (lit_number_below symbols weight lit (each lit (inl refl)))
  | inr later ↦ numbers_below symbols weight lits (λ one there. each one (inr there)) q later
]

map_length : (symbols : ℕ) (lits : List Lit) → length (map (lit_number symbols) lits) ≡ length lits
map_length symbols [] = refl
map_length symbols (lit ∷ lits) = ap suc (map_length symbols lits)

-- different small literals are at most so many
pub room : (symbols weight : ℕ) (lits : List Lit) → AreSmall symbols weight lits → Apart lits → length lits ≤ 2 * (symbols + 1) ^ weight
room symbols weight lits each apart =
    subst (λ n. n ≤ 2 * (symbols + 1) ^ weight) (map_length symbols lits)
    (length-le_from_distinct_below (map (lit_number symbols) lits) (2 * (symbols + 1) ^ weight) (numbers_distinct symbols weight lits each apart) (numbers_below symbols weight lits each))
