-- The lines of the clauses of a sample.
use Rattle.std.proofs.Common.{◌≡◌, ℕ, zero, suc, ◌+◌, ◌-◌, ◌≤◌, ◌∷◌, ◌++◌, map, length, refl, ◌∙◌, ap, arith, length-append}
use Rattle.std.specs.List.{range_with_len}
use Rattle.std.proofs.lemmas.List.{map-append}
use Rattle.std.proofs.lemmas.List.FromFn.{length-map-range_with_len}
use Rattle.mg_word.specs.declared.clause.Clause.{Clause}
use Rattle.mg_word.specs.declared.clause.Place.{Place}
use Rattle.sample_maker.specs.Sample.{AreOnLines, choice, neighbours, sample_clauses, start_of, up_to}

abbrev place_of : Clause → Place
place_of clause = clause.place

choices_on_lines : (first count : ℕ) → map place_of (map choice (range_with_len first count)) ≡ map start_of (range_with_len first count)
choices_on_lines first zero = refl
choices_on_lines first (suc count) = ap (λ places. start_of first ∷ places) (choices_on_lines (first + 1) count)

neighbours_on_lines : (size first count line : ℕ) → size + first ≡ line → map place_of (map (neighbours size) (range_with_len first count)) ≡ map start_of (range_with_len line count)
neighbours_on_lines size first zero line is = refl
neighbours_on_lines size first (suc count) line is =
    ap (λ n. start_of n ∷ map place_of (map (neighbours size) (range_with_len (first + 1) count))) is
    ∙ ap (λ places. start_of line ∷ places) (neighbours_on_lines size (first + 1) count (line + 1) (omega arith))

-- the lines of two parts, one behind the other
two_parts : (first count others next all : ℕ) → first + count ≡ next → count + others ≡ all → map start_of (range_with_len first count) ++ map start_of (range_with_len next others) ≡ map start_of (range_with_len first all)
two_parts first zero others next all is together =
    let same : next ≡ first = omega arith in
    let whole : others ≡ all = omega arith in
    rw (same, whole)
two_parts first (suc count) others next zero is together = absurd (omega arith)
two_parts first (suc count) others next (suc all) is together = ap (λ places. start_of first ∷ places) (two_parts (first + 1) count others next all (omega arith) (omega arith))

pub are_on_lines : (size : ℕ) → 1 ≤ size → AreOnLines (sample_clauses size)
are_on_lines size positive =
    let choices : length (map choice (up_to size)) ≡ size = length-map-range_with_len choice 1 size in
    let others : length (map (neighbours size) (up_to (size - 1))) ≡ size - 1 = length-map-range_with_len (neighbours size) 1 (size - 1) in
    let all : size + (size - 1) ≡ length (sample_clauses size) = simp length-append (omega arith) in
    map-append place_of (map choice (up_to size)) (map (neighbours size) (up_to (size - 1)))
    ∙ ap (λ places. places ++ map place_of (map (neighbours size) (up_to (size - 1)))) (choices_on_lines 1 size)
    ∙ ap (λ places. map start_of (up_to size) ++ places) (neighbours_on_lines size 1 (size - 1) (1 + size) (omega arith))
    ∙ two_parts 1 size (size - 1) (1 + size) (length (sample_clauses size)) refl all
