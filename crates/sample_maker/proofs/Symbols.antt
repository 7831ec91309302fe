-- The symbols of a sample: how many there are, and that each is new where it comes.
use Rattle.std.proofs.Common.{◌≡◌, ℕ, zero, suc, ◌+◌, ◌-◌, ◌*◌, ◌<◌, ◌≤◌, List, [], ◌∷◌, ◌++◌, map, length, slice_index_or, slice_get, Some, codes, Contains, refl, sym, ◌∙◌, ap, arith, append_assoc}
use Rattle.std.specs.List.{flat_map, range_with_len}
use mathlib.Core.Logic.{⊎_elim}
use Rattle.std.proofs.lemmas.List.Elements.{Contains-append_cases}
use Rattle.std.proofs.lemmas.List.FromFn.{map-range_with_len_more}
use Rattle.mg_word.specs.Table.{Symbol}
use Rattle.sample_maker.specs.Sample.{AreNumbered, both, symbol, sample_symbols, number_of_a, number_of_b, up_to}
use Rattle.sample_maker.proofs.Digits.{same_number}

-- both of numbers from one on, with one more at the end
more_both : (first count : ℕ) → flat_map both (range_with_len first (suc count)) ≡ flat_map both (range_with_len first count) ++ both (first + count)
more_both first zero = ap (λ n. both n) (omega arith)
more_both first (suc count) = ap (λ ys. both first ++ ys) (more_both (first + 1) count ∙ ap (λ n. flat_map both (range_with_len (first + 1) count) ++ both n) (omega arith))

-- a list of the first numbers goes on
pub next_mapped : {X : Type 0} (f : ℕ → X) (i : ℕ) → 1 ≤ i → map f (up_to i) ≡ map f (up_to (i - 1)) ++ f i ∷ []
next_mapped f i positive = let back : i - 1 + 1 ≡ i = omega arith in rw back at (map-range_with_len_more f 1 (i - 1) i (omega arith))

pub next_symbols : (i : ℕ) → 1 ≤ i → sample_symbols i ≡ sample_symbols (i - 1) ++ both i
next_symbols zero positive = absurd (omega arith)
next_symbols (suc count) positive =
    let before : suc count - 1 ≡ count = omega arith in
    let last : 1 + count ≡ suc count = omega arith in
    rw before (more_both 1 count ∙ ap (λ n. flat_map both (range_with_len 1 count) ++ both n) last)

-- two for each number
length_from : (first count : ℕ) → length (flat_map both (range_with_len first count)) ≡ 2 * count
length_from first zero = refl
length_from first (suc count) = let rest : length (flat_map both (range_with_len (first + 1) count)) ≡ 2 * count = length_from (first + 1) count in omega arith

pub length_symbols : (size : ℕ) → length (sample_symbols size) ≡ 2 * size
length_symbols size = length_from 1 size

-- no symbol of a greater number is held
absent_from : (letter first count i : ℕ) → first + count ≤ i → ¬ Contains (flat_map both (range_with_len first count)) (symbol (letter ∷ []) i)
absent_from letter first zero i above (k, within, is) = absurd (omega arith)
absent_from letter first (suc count) i above (zero, within, is) = let e = same_number 97 letter first i (ap (λ s. s.name) is) in omega arith
absent_from letter first (suc count) i above (suc zero, within, is) = let e = same_number 98 letter first i (ap (λ s. s.name) is) in omega arith
absent_from letter first (suc count) i above (suc (suc k), within, is) = absent_from letter (first + 1) count i (omega arith) (k, omega arith, is)

pub a_is_new : (i : ℕ) → 1 ≤ i → ¬ Contains (sample_symbols (i - 1)) (symbol (codes "a") i)
a_is_new i positive = absent_from 97 1 (i - 1) i (omega arith)

is_other : (i : ℕ) → ¬ Contains (symbol (codes "a") i ∷ []) (symbol (codes "b") i)
is_other i (zero, within, is) = let letters : 97 ≡ 98 = ap (λ (s : Symbol). slice_index_or s.name 0 0) is in omega (arith, letters)
is_other i (suc k, within, is) = absurd (omega arith)

pub b_is_new : (i : ℕ) → 1 ≤ i → ¬ Contains (sample_symbols (i - 1) ++ symbol (codes "a") i ∷ []) (symbol (codes "b") i)
b_is_new i positive held =
    ⊎_elim (absent_from 98 1 (i - 1) i (omega arith)) (is_other i) (Contains-append_cases (sample_symbols (i - 1)) (symbol (codes "a") i ∷ []) (symbol (codes "b") i) held)

-- one more element of a list of the first numbers
pub pushed : {X : Type 0} (f : ℕ → X) (i : ℕ) (old before now : List X) → 1 ≤ i → before ≡ old ++ map f (up_to (i - 1)) → now ≡ before ++ f i ∷ [] → now ≡ old ++ map f (up_to (i + 1 - 1))
pushed f i old before now positive so_far added =
    let next : i + 1 - 1 ≡ i = omega arith in
    rw next (added ∙ ap (λ ys. ys ++ f i ∷ []) so_far ∙ append_assoc old (map f (up_to (i - 1))) (f i ∷ []) ∙ ap (λ ys. old ++ ys) (sym (next_mapped f i positive)))

-- with both of the next number
pub with_both : (i : ℕ) (before held now : List Symbol) → 1 ≤ i → before ≡ sample_symbols (i - 1) → held ≡ before ++ symbol (codes "a") i ∷ [] → now ≡ held ++ symbol (codes "b") i ∷ [] → now ≡ sample_symbols i
with_both i before held now positive is first second =
    second ∙ ap (λ ys. ys ++ symbol (codes "b") i ∷ []) (first ∙ ap (λ ys. ys ++ symbol (codes "a") i ∷ []) is)
    ∙ append_assoc (sample_symbols (i - 1)) (symbol (codes "a") i ∷ []) (symbol (codes "b") i ∷ []) ∙ sym (next_symbols i positive)

-- where `ai` and `bi` are
a_from : (first count i number : ℕ) → first ≤ i → i < first + count → number ≡ 2 * (i - first) → slice_get (flat_map both (range_with_len first count)) number ≡ Some (symbol (codes "a") i)
a_from first zero i number low high is = absurd (omega arith)
a_from first (suc count) i zero low high is = let e : first ≡ i = omega arith in ap (λ n. Some (symbol (codes "a") n)) e
a_from first (suc count) i (suc zero) low high is = absurd (omega arith)
a_from first (suc count) i (suc (suc number)) low high is = a_from (first + 1) count i number (omega arith) (omega arith) (omega arith)

b_from : (first count i number : ℕ) → first ≤ i → i < first + count → number ≡ 2 * (i - first) + 1 → slice_get (flat_map both (range_with_len first count)) number ≡ Some (symbol (codes "b") i)
b_from first zero i number low high is = absurd (omega arith)
b_from first (suc count) i zero low high is = absurd (omega arith)
b_from first (suc count) i (suc zero) low high is = let e : first ≡ i = omega arith in ap (λ n. Some (symbol (codes "b") n)) e
b_from first (suc count) i (suc (suc number)) low high is = b_from (first + 1) count i number (omega arith) (omega arith) (omega arith)

pub a_stands : (size i : ℕ) → 1 ≤ i → i ≤ size → slice_get (sample_symbols size) (number_of_a i) ≡ Some (symbol (codes "a") i)
a_stands size i low high = a_from 1 size i (number_of_a i) low (omega arith) refl

pub b_stands : (size i : ℕ) → 1 ≤ i → i ≤ size → slice_get (sample_symbols size) (number_of_b i) ≡ Some (symbol (codes "b") i)
b_stands size i low high = b_from 1 size i (number_of_b i) low (omega arith) refl

pub are_numbered : (size : ℕ) → AreNumbered size (sample_symbols size)
are_numbered size = record { each_a = a_stands size; each_b = b_stands size }
