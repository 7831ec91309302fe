-- The symbols of a table are all different, so that each has one number.
use Rattle.std.proofs.Common.{◌≡◌, ◌≢◌, ℕ, ◌<◌, Bool, true, true≢false, List, map, length, get_or, Some, slice_get, AllPairs, inl, inr, sym, ap, ◌∙◌, arith}
use Rattle.std.specs.List.{IsDistinct}
use Rattle.std.specs.Option.{option_map}
use Rattle.std.proofs.lemmas.Bool.{cases_order}
use Rattle.std.proofs.lemmas.List.{length-map}
use Rattle.std.proofs.lemmas.Map.Keys.{apart_from_distinct}
use Rattle.std.proofs.lemmas.Option.{slice_get-map, slice_get_within, get_or_from_slice_get, slice_get_cases}

-- there is an element at each index below the length
pub element : {X : Type 0} (xs : List X) (i : ℕ) → i < length xs → (x : X) × (slice_get xs i ≡ Some x)
element xs i within = elim (slice_get_cases xs i).1 [ inl found ↦ (found.0, found.2) | inr past ↦ absurd (omega (arith, past.0)) ]

module _ {K V : Type 0} (eq : K → K → Bool) (seen : K → V) (equal : (a b : K) → seen a ≡ seen b → eq a b ≡ true) where
  -- keys that no test takes for one another are seen as different values
  pub different : (keys : List K) → IsDistinct eq keys → AllPairs (λ a b. a ≢ b) (map seen keys)
  different keys distinct i j d before within same =
      let count = length-map keys seen in
      let first = element keys i (omega (arith, count)) in
      let second = element keys j (omega (arith, count)) in
      let apart = apart_from_distinct eq keys i j first.0 distinct before (omega (arith, count)) in
      let left = get_or_from_slice_get (map seen keys) i (seen first.0) d (slice_get-map seen keys i ∙ ap (option_map seen) first.1) in
      let right = get_or_from_slice_get (map seen keys) j (seen second.0) d (slice_get-map seen keys j ∙ ap (option_map seen) second.1) in
      let equals = equal first.0 second.0 (sym left ∙ same ∙ right) in
      let here = get_or_from_slice_get keys i first.0 first.0 first.1 in
      let there = get_or_from_slice_get keys j second.0 first.0 second.1 in
      true≢false (sym equals ∙ ap (λ x. eq x second.0) (sym here) ∙ ap (λ y. eq (get_or keys i first.0) y) (sym there) ∙ apart)

-- where all are different, a value has one number
pub number_unique : {V : Type 0} (values : List V) → AllPairs (λ a b. a ≢ b) values → (i j : ℕ) (value : V) → slice_get values i ≡ Some value → slice_get values j ≡ Some value → i ≡ j
number_unique values apart i j value here there =
    let left = get_or_from_slice_get values i value value here in
    let right = get_or_from_slice_get values j value value there in
    let inside = slice_get_within values i value here in
    let within = slice_get_within values j value there in
    elim (cases_order i j) [ inl same ↦ same | inr apart_by ↦ elim apart_by [ inl less ↦ absurd (apart i j value less within (left ∙ sym right)) | inr more ↦ absurd (apart j i value more inside (right ∙ sym left)) ] ]
