-- The places of literals in a set, and the literals that a choice puts in.
use Rattle.std.proofs.Common.{◌≡◌, ℕ, zero, suc, ◌+◌, ◌<◌, Bool, true, false, true≢false, not, cond, ◌&&◌, ◌||◌, List, [], ◌∷◌, ◌++◌, length, take, drop, get_or, Option, None, Some, slice_get, Result, Ok, Err, MatchResult, refl, sym, ap, ap₂, subst, ◌∙◌, ◌⊎◌, inl, inr, arith, append_assoc}
use Rattle.std.specs.List.{list_any, list_all, cons_option}
use Rattle.std.specs.List.Sorted.{IsSearchInRange, IsBinarySearchResult}
use Rattle.std.specs.Option.{option_map, option_map_or, option_to_list}
use Rattle.std.proofs.lemmas.List.{at_drop_more, take_more}
use Rattle.std.proofs.lemmas.List.Elements.{filter_map-append}
use Rattle.std.proofs.lemmas.Option.{slice_get-get_or}
use Rattle.mg_word.specs.Orders.{lit_cmp}
use Rattle.mg_word.specs.OrderLaws.{lit_same, lits_equal}
use Rattle.mg_word.specs.Sets.{same_lit, holds, is_part, meets, is_below_first, is_rising}
use Rattle.mg_word.specs.declared.lit.Lit.{Lit}
use Rattle.mg_word.proofs.Members.{two_cases, both_true, never_true, holds_first, holds_later, holds_cases}
use Rattle.mg_word.proofs.RisingLists.{missing_low}
use Rattle.mg_word.proofs.SortedLits.{search_exact}
use Rattle.minimal_test.specs.declared.side.Side.{Side}
use Rattle.minimal_test.specs.Choices.{is_broken, side_at, is_on, chosen_of}
use Rattle.minimal_test.specs.Places.{place_of, places_of, rule_of, chosen_by, chosen_from}

-- the literal stands at its place
pub place_found : (set : List Lit) (lit : Lit) (k : ℕ) → place_of set lit ≡ Some k → slice_get set k ≡ Some lit
place_found [] lit k e = absurd (let bad : ⊥ = cc in bad)
place_found (first ∷ set) lit k e = by (same_lit first lit) refl (place_of set lit) refl e (λ j. place_found set lit j)
  where
    by : (same : Bool) → same_lit first lit ≡ same → (rest : Option ℕ) → place_of set lit ≡ rest → cond same (Some 0) (option_map suc rest) ≡ Some k → ((j : ℕ) → place_of set lit ≡ Some j → slice_get set j ≡ Some lit) → slice_get (first ∷ set) k ≡ Some lit
    by true is rest at e further =
        let here : 0 ≡ k = cc in
        subst (λ (n : ℕ). slice_get (first ∷ set) n ≡ Some lit) here (ap Some ((lits_equal first lit).0 is))
    by false is None at e further = absurd (let bad : ⊥ = cc in bad)
    by false is (Some j) at e further =
        let here : suc j ≡ k = cc in
        subst (λ (n : ℕ). slice_get (first ∷ set) n ≡ Some lit) here (further j at)

-- a literal of the set has a place, and another has none
pub place_there : (set : List Lit) (lit : Lit) → holds set lit ≡ true → (k : ℕ) × (place_of set lit ≡ Some k)
place_there [] lit there = absurd (true≢false (sym there))
place_there (first ∷ set) lit there = by (same_lit first lit) refl (place_there set lit)
  where
    by : (same : Bool) → same_lit first lit ≡ same → (holds set lit ≡ true → (k : ℕ) × (place_of set lit ≡ Some k)) → (k : ℕ) × (cond same (Some 0) (option_map suc (place_of set lit)) ≡ Some k)
    by true is further = (0, refl)
    by false is further =
        let (k, at) = further (sym (ap (λ t. t || holds set lit) is) ∙ there) in
        (suc k, ap (option_map suc) at)

pub place_missing : (set : List Lit) (lit : Lit) → holds set lit ≡ false → place_of set lit ≡ None
place_missing [] lit out = refl
place_missing (first ∷ set) lit out = by (same_lit first lit) refl (place_missing set lit)
  where
    by : (same : Bool) → same_lit first lit ≡ same → (holds set lit ≡ false → place_of set lit ≡ None) → cond same (Some 0) (option_map suc (place_of set lit)) ≡ None
    by true is further = absurd (true≢false (sym (ap (λ t. t || holds set lit) is) ∙ out))
    by false is further = ap (option_map suc) (further (sym (ap (λ t. t || holds set lit) is) ∙ out))

-- the literal at a place is one of the list
pub at_holds : (lits : List Lit) (lit : Lit) (k : ℕ) → slice_get lits k ≡ Some lit → holds lits lit ≡ true
at_holds [] lit k e = absurd (let bad : ⊥ = cc in bad)
at_holds (one ∷ lits) lit zero e = let here : one ≡ lit = cc in subst (λ x. holds (one ∷ lits) x ≡ true) here (holds_first one lits)
at_holds (one ∷ lits) lit (suc k) e = holds_later one lits lit (at_holds lits lit k e)

-- the literal at a place of a rising set has that place
pub place_at : (set : List Lit) (lit : Lit) (k : ℕ) → is_rising set ≡ true → slice_get set k ≡ Some lit → place_of set lit ≡ Some k
place_at [] lit k rising e = absurd (let bad : ⊥ = cc in bad)
place_at (first ∷ set) lit zero rising e =
    let here : first ≡ lit = cc in
    ap (λ t. cond t (Some 0) (option_map suc (place_of set lit))) ((lits_equal first lit).1 here)
place_at (first ∷ set) lit (suc k) rising e =
    let parts = both_true (is_below_first first set) (is_rising set) rising in
    let rest = place_at set lit k parts.1 e in
    let apart : same_lit first lit ≡ false = never_true (same_lit first lit) (λ is.
    true≢false (sym (at_holds set lit k e) ∙ (ap (holds set) (sym ((lits_equal first lit).0 is)) ∙ missing_low first set parts.0 parts.1))) in
    ap (λ t. cond t (Some 0) (option_map suc (place_of set lit))) apart ∙ ap (option_map suc) rest

-- a binary search answers the place
pub place_searched : (set : List Lit) (lit : Lit) (answer : Result ℕ ℕ) → is_rising set ≡ true → IsSearchInRange answer (length set) → IsBinarySearchResult (λ held. lit_cmp held lit) set answer
    → MatchResult answer (λ k. place_of set lit ≡ Some k) (λ _. place_of set lit ≡ None)
place_searched set lit (Ok k) rising range found =
    place_at set lit k rising (slice_get-get_or set k lit range ∙ ap Some (lit_same (get_or set k lit) lit (found lit)))
place_searched set lit (Err at) rising range found = place_missing set lit (sym (search_exact set lit (Err at) rising range found))

-- a choice of the places of a set that goes by a part of it
module _ (set part : List Lit) (chosen : ℕ → Bool) (goes : (k : ℕ) (lit : Lit) → slice_get set k ≡ Some lit → chosen k ≡ holds part lit) where
  places_all : (lits : List Lit) → is_part lits set ≡ true → list_all chosen (places_of set lits) ≡ is_part lits part
  places_all [] is = refl
  places_all (lit ∷ lits) is =
      let each = both_true (holds set lit) (is_part lits set) is in
      let (k, at) = place_there set lit each.0 in
      ap (λ one. list_all chosen (cons_option one (places_of set lits))) at ∙ ap₂ (λ a b. a && b) (goes k lit (place_found set lit k at)) (places_all lits each.1)

  places_any : (lits : List Lit) → ((lit : Lit) → holds part lit ≡ true → holds set lit ≡ true) → list_any chosen (places_of set lits) ≡ meets lits part
  places_any [] inside = refl
  places_any (lit ∷ lits) inside = by (two_cases (holds set lit)) (places_any lits inside)
    where
      by : (holds set lit ≡ true) ⊎ (holds set lit ≡ false) → list_any chosen (places_of set lits) ≡ meets lits part → list_any chosen (places_of set (lit ∷ lits)) ≡ (holds part lit || meets lits part)
      by (inl there) rest =
          let (k, at) = place_there set lit there in
          ap (λ one. list_any chosen (cons_option one (places_of set lits))) at ∙ ap₂ (λ a b. a || b) (goes k lit (place_found set lit k at)) rest
      by (inr out) rest =
          let none : holds part lit ≡ false = never_true (holds part lit) (λ there. true≢false (sym (inside lit there) ∙ out)) in
          ap (λ one. list_any chosen (cons_option one (places_of set lits))) (place_missing set lit out) ∙ (rest ∙ sym (ap (λ t. t || meets lits part) none))

  -- it breaks a rule where the part has all premises and no conclusion
  pub rule_broken : (premises conclusions : List Lit) → is_part premises set ≡ true → ((lit : Lit) → holds part lit ≡ true → holds set lit ≡ true)
      → is_broken chosen (rule_of set premises conclusions) ≡ (is_part premises part && not (meets conclusions part))
  rule_broken premises conclusions is inside = ap₂ (λ a b. a && not b) (places_all premises is) (places_any conclusions inside)

-- the choice of a part goes by it
pub chosen_by_goes : (set part : List Lit) (k : ℕ) (lit : Lit) → slice_get set k ≡ Some lit → chosen_by set part k ≡ holds part lit
chosen_by_goes set part k lit at = ap (λ one. option_map_or (holds part) one false) at

-- what a choice puts in is of the list
pub taken_inside : (chosen : ℕ → Bool) (at : ℕ) (lits : List Lit) (lit : Lit) → holds (chosen_from chosen at lits) lit ≡ true → holds lits lit ≡ true
taken_inside chosen at [] lit there = there
taken_inside chosen at (first ∷ lits) lit there = by (chosen at) there (taken_inside chosen (at + 1) lits lit)
  where
    by : (taken : Bool) → holds (cond taken (first ∷ []) [] ++ chosen_from chosen (at + 1) lits) lit ≡ true → (holds (chosen_from chosen (at + 1) lits) lit ≡ true → holds lits lit ≡ true) → holds (first ∷ lits) lit ≡ true
    by true there further = elim (holds_cases first (chosen_from chosen (at + 1) lits) lit there) [
      | inl same ↦ subst (λ x. holds (first ∷ lits) x ≡ true) same (holds_first first lits)
      | inr later ↦ holds_later first lits lit (further later)
    ]
    by false there further = holds_later first lits lit (further there)

-- and of a rising list it goes by the choice
pub taken_goes : (chosen : ℕ → Bool) (at : ℕ) (lits : List Lit) (k : ℕ) (lit : Lit) → is_rising lits ≡ true → slice_get lits k ≡ Some lit → chosen (at + k) ≡ holds (chosen_from chosen at lits) lit
taken_goes chosen at [] k lit rising e = absurd (let bad : ⊥ = cc in bad)
taken_goes chosen at (first ∷ lits) zero lit rising e =
    let here : first ≡ lit = cc in
    let parts = both_true (is_below_first first lits) (is_rising lits) rising in
    let same : at + 0 ≡ at = omega arith in
    ap chosen same ∙ by (chosen at) here (missing_low first lits parts.0 parts.1)
  where
    by : (taken : Bool) → first ≡ lit → holds lits first ≡ false → taken ≡ holds (cond taken (first ∷ []) [] ++ chosen_from chosen (at + 1) lits) lit
    by true here out = sym (subst (λ x. holds (first ∷ chosen_from chosen (at + 1) lits) x ≡ true) here (holds_first first (chosen_from chosen (at + 1) lits)))
    by false here out = sym (never_true (holds (chosen_from chosen (at + 1) lits) lit) (λ there. true≢false (sym (taken_inside chosen (at + 1) lits lit there) ∙ (ap (holds lits) (sym here) ∙ out))))
taken_goes chosen at (first ∷ lits) (suc k) lit rising e =
    let parts = both_true (is_below_first first lits) (is_rising lits) rising in
    let rest = taken_goes chosen (at + 1) lits k lit parts.1 e in
    let same : at + suc k ≡ at + 1 + k = omega arith in
    let apart : same_lit first lit ≡ false = never_true (same_lit first lit) (λ is.
    true≢false (sym (at_holds lits lit k e) ∙ (ap (holds lits) (sym ((lits_equal first lit).0 is)) ∙ missing_low first lits parts.0 parts.1))) in
    ap chosen same ∙ (rest ∙ by (chosen at) apart)
  where
    by : (taken : Bool) → same_lit first lit ≡ false → holds (chosen_from chosen (at + 1) lits) lit ≡ holds (cond taken (first ∷ []) [] ++ chosen_from chosen (at + 1) lits) lit
    by true apart = sym (ap (λ t. t || holds (chosen_from chosen (at + 1) lits) lit) apart)
    by false apart = refl

-- a step of the loop that collects them
pub taken_more : (sides : List Side) (lits made more : List Lit) (at : ℕ) (lit : Lit) (side : Side) → at < length lits → lit ≡ get_or lits at lit → side ≡ side_at sides at → more ≡ made ++ cond (is_on true side) (lit ∷ []) []
    → more ++ chosen_from (chosen_of sides) (at + 1) (drop (at + 1) lits) ≡ made ++ chosen_from (chosen_of sides) at (drop at lits)
taken_more sides lits made more at lit side within is found e =
    let one : List Lit = cond (is_on true side) (lit ∷ []) [] in
    let rest : List Lit = chosen_from (chosen_of sides) (at + 1) (drop (at + 1) lits) in
    let same : one ≡ cond (chosen_of sides at) (get_or lits at lit ∷ []) [] = ap₂ (λ (s : Side) (l : Lit). cond (is_on true s) (l ∷ []) []) found is in
    ap (λ (list : List Lit). list ++ rest) e
    ∙ (append_assoc made one rest
    ∙ (ap (λ (list : List Lit). made ++ (list ++ rest)) same
    ∙ ap (λ (list : List Lit). made ++ list) (sym (at_drop_more (chosen_from (chosen_of sides) at) lits at lit within))))

-- a step of the loop that collects places
pub places_more : (set lits : List Lit) (i : ℕ) (lit : Lit) (place : Option ℕ) (made more : List ℕ) → i < length lits → lit ≡ get_or lits i lit → place ≡ place_of set lit → made ≡ places_of set (take i lits) → more ≡ made ++ option_to_list place → more ≡ places_of set (take (i + 1) lits)
places_more set lits i lit place made more within is found so_far e =
    let same : option_to_list place ≡ places_of set (get_or lits i lit ∷ []) = single place ∙ ap₂ (λ (p : Option ℕ) (l : List ℕ). cons_option p l) (found ∙ ap (place_of set) is) refl in
    e ∙ (ap₂ (λ (a b : List ℕ). a ++ b) so_far same
    ∙ (sym (filter_map-append (place_of set) (take i lits) (get_or lits i lit ∷ [])) ∙ ap (places_of set) (sym (take_more lits i lit within))))
  where
    single : (place : Option ℕ) → option_to_list place ≡ cons_option place []
    single None = refl
    single (Some place) = refl
