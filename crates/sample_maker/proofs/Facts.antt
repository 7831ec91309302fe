-- What inputs keep, of samples.
use Rattle.std.proofs.Common.{◌≡◌, ℕ, zero, suc, ◌+◌, ◌-◌, ◌/◌, ◌%◌, ◌<◌, ◌≤◌, IsTrue, [], ◌∷◌, map, length, codes, All, AllPairs, ◌≢◌, refl, arith, lit<, lit≤, length-append}
use Rattle.std.specs.List.{flat_map, list_all, range_with_len}
use Rattle.std.proofs.lemmas.Bool.Decides.{nat_tests}
use Rattle.std.proofs.lemmas.List.Elements.{All-append, All-cons}
use Rattle.std.proofs.lemmas.List.FromFn.{length-map-range_with_len}
use Rattle.mg_word.specs.Facts.{is_symbol, IsClause, IsInput}
use Rattle.sample_maker.specs.Sample.{both, symbol, sample_symbols, sample_clauses, choice, neighbours, up_to}
use Rattle.sample_maker.proofs.Symbols.{a_stands, b_stands}

-- digits are bytes of a name
is_named : (letter i : ℕ) → 32 ≤ letter → letter ≤ 126 → i < 100 → IsTrue (is_symbol (symbol (letter ∷ []) i))
is_named letter i low high small =
    let tens : 48 + i / 10 ≤ 126 = omega arith in
    let units : 48 + i % 10 ≤ 126 = omega arith in
    grind (arith, nat_tests)

are_named : (first count : ℕ) → first + count ≤ 100 → IsTrue (list_all is_symbol (flat_map both (range_with_len first count)))
are_named first zero small = refl
are_named first (suc count) small =
    let digits : IsTrue (is_symbol (symbol (97 ∷ []) first)) = is_named 97 first (lit≤ tt) (lit≤ tt) (omega arith) in
    rw digits (are_named (first + 1) count (omega arith))

-- each clause of a sample fits its symbols
choice_fits : (size i : ℕ) → 1 ≤ i → i ≤ size → IsClause (sample_symbols size) 1 (choice i)
choice_fits size i low high = record {
  fitting = rw (a_stands size i low high, b_stands size i low high) refl;
  atoms = refl;
  occurring = λ variable below. absurd (omega arith);
  choices = refl;
  positives = lit≤ tt;
  positions = λ k d below. absurd (omega arith);
  place = lit< tt;
  literals = lit≤ tt;
  variables = lit≤ tt;
}

neighbours_fit : (size i : ℕ) → 1 ≤ i → i < size → IsClause (sample_symbols size) 1 (neighbours size i)
neighbours_fit size i low high = record {
  fitting = rw (a_stands size i low (omega arith), a_stands size (i + 1) (omega arith) (omega arith)) refl;
  atoms = refl;
  occurring = λ variable below. absurd (omega arith);
  choices = refl;
  positives = lit≤ tt;
  positions = λ k d below. absurd (omega arith);
  place = lit< tt;
  literals = lit≤ tt;
  variables = lit≤ tt;
}

-- what holds at each number holds of each element made from one
each_mapped : {X : Type 0} (P : X → Type 0) (f : ℕ → X) (first count : ℕ) → ((i : ℕ) → first ≤ i → i < first + count → P (f i)) → All P (map f (range_with_len first count))
each_mapped P f first zero each = λ k d below. absurd (omega arith)
each_mapped P f first (suc count) each =
    All-cons P (f first) (map f (range_with_len (first + 1) count)) (each first (omega arith) (omega arith)) (each_mapped P f (first + 1) count (λ i low high. each i (omega arith) (omega arith)))

clauses_fit : (size : ℕ) → 1 ≤ size → All (IsClause (sample_symbols size) 1) (sample_clauses size)
clauses_fit size positive =
    All-append (IsClause (sample_symbols size) 1) (map choice (up_to size)) (map (neighbours size) (up_to (size - 1)))
    (each_mapped (IsClause (sample_symbols size) 1) choice 1 size (λ i low high. choice_fits size i low (omega arith)))
    (each_mapped (IsClause (sample_symbols size) 1) (neighbours size) 1 (size - 1) (λ i low high. neighbours_fit size i low (omega arith)))

-- a sample is an input
pub sample_is_input : (size : ℕ) → 1 ≤ size → size ≤ 20 → AllPairs (λ a b. a ≢ b) (sample_symbols size) → IsInput (sample_symbols size) (codes "sample" ∷ []) (sample_clauses size)
sample_is_input size low high different =
    let choices : length (map choice (up_to size)) ≡ size = length-map-range_with_len choice 1 size in
    let others : length (map (neighbours size) (up_to (size - 1))) ≡ size - 1 = length-map-range_with_len (neighbours size) 1 (size - 1) in
    record {
      named = are_named 1 size (omega arith);
      different = different;
      each = clauses_fit size low;
      few = simp length-append (omega arith);
    }
