-- What sorting, dropping twins, searching and merging do to rising lists of literals.
use Rattle.std.proofs.Common.{◌≡◌, ℕ, ◌+◌, ◌≤◌, zero, suc, Bool, true, false, true≢false, ◌||◌, List, [], ◌∷◌, length, get_or, is_ok, Result, Ok, Err, All, IsPermutation, IsSorted, inl, inr, refl, sym, ap, ◌∙◌, arith}
use Rattle.std.specs.List.{dedup, AllWithin, insert}
use Rattle.std.specs.List.Sorted.{IsStrictlySortedBy, IsBinarySearchResult, IsSearchInRange}
use Rattle.std.specs.declared.cmp.Ordering.TheVariants.{Less, Equal, Greater}
use Rattle.std.specs.Ordering.{is_lt, ordering_reverse}
use Rattle.std.proofs.lemmas.Bool.{and_parts, cases_lt}
use Rattle.std.proofs.lemmas.Cmp.{tied_itself, eq_by_cmp_equiv}
use Rattle.std.proofs.lemmas.List.Elements.{recursion_from_All, Contains-get_or}
use Rattle.std.proofs.lemmas.List.Kept.{Contains-dedup, Contains-from_dedup, IsStrictlySortedBy-dedup}
use Rattle.std.proofs.lemmas.List.Sorted.{Contains-permutation, IsPermutation-sym, searchable_from_sorted}
use Rattle.std.proofs.lemmas.Map.Keys.{Less-from_sorted}
use Rattle.mg_word.specs.Orders.{lit_cmp}
use Rattle.mg_word.specs.OrderLaws.{lit_total, lit_same, lits_equal}
use Rattle.mg_word.specs.Sets.{same_lit, holds, is_below_first, is_rising, placed, with_lit, set_of}
use Rattle.mg_word.specs.declared.lit.Lit.{Lit}
use Rattle.mg_word.proofs.RisingLists.{least, set_exact, sorted_rises, holds_same, holds_there, there_holds, not_below_itself}

-- a sorted list without twins rises
pub deduped_rises : (sorted : List Lit) → IsSorted lit_cmp sorted → is_rising (dedup same_lit sorted) ≡ true
deduped_rises sorted up = sorted_rises (dedup same_lit sorted) (IsStrictlySortedBy-dedup lit_total (λ _ _. refl) sorted up)

-- and it is the set of each list that it was sorted from
pub deduped_set : (lits sorted : List Lit) → IsPermutation lits sorted → IsSorted lit_cmp sorted → dedup same_lit sorted ≡ set_of lits
deduped_set lits sorted moved up =
    set_exact lits (dedup same_lit sorted) (deduped_rises sorted up)
    (λ lit. holds_same (dedup same_lit sorted) lits lit
    (λ there. Contains-permutation sorted lits lit (IsPermutation-sym lits sorted moved) (Contains-from_dedup same_lit sorted lit there))
    (λ there. Contains-dedup (eq_by_cmp_equiv lit_total) (λ x y. (lits_equal x y).0) sorted lit (Contains-permutation lits sorted lit moved there)))

-- a rising list is strictly sorted
rises_sorted : (lits : List Lit) → is_rising lits ≡ true → IsStrictlySortedBy lit_cmp lits
unfolding IsStrictlySortedBy
rises_sorted [] rising = tt
rises_sorted (lit ∷ lits) rising =
    let parts = and_parts (is_below_first lit lits) (is_rising lits) rising in
    let above : All (λ held. lit_cmp lit held ≡ Less) lits = λ k d within. least lit lits parts.0 parts.1 (get_or lits k d) (there_holds lits (get_or lits k d) (Contains-get_or lits k d within)) in
    (recursion_from_All (λ held. lit_cmp lit held ≡ Less) lits above, rises_sorted lits parts.1)

not_less_back : (a b : Lit) → lit_cmp a b ≡ Less → is_lt (lit_cmp b a) ≡ false
not_less_back a b less = ap is_lt (lit_total.antisymm b a ∙ ap ordering_reverse less)

rising_sorted : (lits : List Lit) → is_rising lits ≡ true → IsSorted lit_cmp lits
rising_sorted lits rising k d from before = not_less_back (get_or lits k d) (get_or lits (k + 1) d) (Less-from_sorted lit_cmp lits k (k + 1) d (rises_sorted lits rising) (omega arith) before)

-- a binary search in a rising list is exact
pub search_exact : (lits : List Lit) (lit : Lit) (answer : Result ℕ ℕ) → is_rising lits ≡ true → IsSearchInRange answer (length lits) → IsBinarySearchResult (λ held. lit_cmp held lit) lits answer → is_ok answer ≡ holds lits lit
search_exact lits lit (Ok at) rising range found =
    let same = lit_same (get_or lits at lit) lit (found lit) in
    sym (there_holds lits lit (at, range, same))
search_exact lits lit (Err at) rising range found = by (holds lits lit) refl
  where
    by : (there : Bool) → holds lits lit ≡ there → false ≡ there
    by false is = refl
    by true is =
        let place = holds_there lits lit is in
        let tied = tied_itself lit_total lit in
        let sides = found (searchable_from_sorted lit_total (λ held. held) lits lit (rising_sorted lits rising)) in
        elim (cases_lt place.0 at) [
          | inl before ↦ let less = sides.0 place.0 lit (omega arith) before in absurd (not_below_itself lit (rw place.2 at less))
          | inr after ↦ let greater = sides.1 place.0 lit after place.1 in let same : lit_cmp lit lit ≡ Greater = rw place.2 at greater in cc
        ]

-- a literal that is held changes nothing
pub with_held : (lits : List Lit) (lit : Lit) → is_rising lits ≡ true → holds lits lit ≡ true → with_lit lits lit ≡ lits
with_held [] lit rising there = absurd (true≢false (sym there))
with_held (first ∷ lits) lit rising there =
    let parts = and_parts (is_below_first first lits) (is_rising lits) rising in
    by (same_lit first lit) refl (with_held lits lit parts.1) parts.0 parts.1
  where
    by : (same : Bool) → same_lit first lit ≡ same → (holds lits lit ≡ true → with_lit lits lit ≡ lits) → is_below_first first lits ≡ true → is_rising lits ≡ true → with_lit (first ∷ lits) lit ≡ first ∷ lits
    by true is further below up =
        let tie : lit_cmp lit first ≡ Equal = ap (λ l. lit_cmp l first) (sym ((lits_equal first lit).0 is)) ∙ tied_itself lit_total first in
        ap (λ answer. placed answer lit first lits (with_lit lits lit)) tie
    by false is further below up =
        let rest : holds lits lit ≡ true = sym (ap (λ b. b || holds lits lit) is) ∙ there in
        let greater : lit_cmp lit first ≡ Greater = lit_total.antisymm lit first ∙ ap ordering_reverse (least first lits below up lit rest) in
        ap (λ answer. placed answer lit first lits (with_lit lits lit)) greater ∙ ap (λ l. first ∷ l) (further rest)

-- a literal goes between those before it and those after it
pub with_at : (lits : List Lit) (lit : Lit) (at : ℕ) → at ≤ length lits → AllWithin (λ held. lit_cmp held lit ≡ Less) lits 0 at → AllWithin (λ held. lit_cmp held lit ≡ Greater) lits at (length lits) → with_lit lits lit ≡ insert lits at lit
with_at [] lit zero inside below above = refl
with_at [] lit (suc at) inside below above = absurd (omega arith)
with_at (first ∷ lits) lit zero inside below above =
    let less : lit_cmp lit first ≡ Less = lit_total.antisymm lit first ∙ ap ordering_reverse (above 0 first (omega arith) (omega arith)) in
    ap (λ answer. placed answer lit first lits (with_lit lits lit)) less
with_at (first ∷ lits) lit (suc at) inside below above =
    let greater : lit_cmp lit first ≡ Greater = lit_total.antisymm lit first ∙ ap ordering_reverse (below 0 first (omega arith) (omega arith)) in
    ap (λ answer. placed answer lit first lits (with_lit lits lit)) greater
    ∙ ap (λ l. first ∷ l) (with_at lits lit at (omega arith) (λ k d from before. below (suc k) d (omega arith) (omega arith)) (λ k d from before. above (suc k) d (omega arith) (omega arith)))

-- where a binary search found nothing, the literal goes to the place that it answers
pub search_place : (lits : List Lit) (lit : Lit) (at : ℕ) → is_rising lits ≡ true → at ≤ length lits → IsBinarySearchResult (λ held. lit_cmp held lit) lits (Err at) → with_lit lits lit ≡ insert lits at lit
search_place lits lit at rising inside found =
    let sides = found (searchable_from_sorted lit_total (λ held. held) lits lit (rising_sorted lits rising)) in
    with_at lits lit at inside sides.0 sides.1
