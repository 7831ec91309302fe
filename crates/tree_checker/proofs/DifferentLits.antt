-- Keys of a table of literals, and the list that they are seen as.
use Rattle.std.proofs.Common.{◌≡◌, ℕ, suc, zero, ◌<◌, Bool, true, false, ◌||◌, List, [], ◌∷◌, map, length, get_or, slice_get, position, Option, Some, None, refl, sym, ap, ◌∙◌, arith}
use Rattle.std.specs.List.{list_any, AllByRecursion, IsDistinct}
use Rattle.std.specs.Option.{option_map, is_some}
use Rattle.std.proofs.lemmas.List.{map-append, length-map, get_or-map}
use Rattle.std.proofs.lemmas.List.Quantifiers.{position-Some}
use Rattle.std.proofs.lemmas.Option.{slice_get_within, get_or_from_slice_get}
use Rattle.std.proofs.lemmas.Map.Keys.{IsDistinct-head, IsDistinct-tail}
use Rattle.std.proofs.lemmas.Cmp.{eq_by_cmp_equiv}
use Rattle.indexmap.specs.IndexSet.{insert_key}
use Rattle.mg_word.specs.OrderLaws.{lit_total, lits_equal}
use Rattle.mg_word.specs.Sets.{same_lit, holds}
use Rattle.mg_word.specs.declared.lit.Lit.{Lit}
use Rattle.tree_checker.specs.Indices.{index_of, lit_at, with_new, AreDifferent}
use Rattle.tree_checker.specs.Kept.{lit_of, same_kept}
use Rattle.tree_checker.specs.declared.kept_lit.KeptLit.{KeptLit}
use Rattle.tree_checker.proofs.FirstIndices.{no_index}

abbrev no_lit : Lit
no_lit = record { negative = false; word = [] }

-- a test of keys is one of literals
pub any_held : (keys : List KeptLit) (key : KeptLit) → list_any (same_kept key) keys ≡ holds (map lit_of keys) (lit_of key)
any_held [] key = refl
any_held (first ∷ keys) key = λ i. (eq_by_cmp_equiv lit_total).symm (lit_of key) (lit_of first) i || any_held keys key i

apart_at : (key : KeptLit) (keys : List KeptLit) → AllByRecursion (λ other. same_kept key other ≡ false) keys → (index : ℕ) → index < length keys
    → same_lit (lit_of key) (lit_at (map lit_of keys) index) ≡ false
apart_at key [] apart index within = absurd (omega (arith, within))
apart_at key (first ∷ keys) apart zero within = apart.0
apart_at key (first ∷ keys) apart (suc index) within = apart_at key keys apart.1 index (omega (arith, within))

-- keys of which no two are equal stand for different literals
pub different : (keys : List KeptLit) → IsDistinct same_kept keys → AreDifferent (map lit_of keys)
different [] distinct index within = absurd (omega (arith, within))
different (first ∷ keys) distinct zero within = rw ((lits_equal (lit_of first) (lit_of first)).1 refl) refl
different (first ∷ keys) distinct (suc index) within =
    let long : length (map lit_of keys) ≡ length keys = length-map keys lit_of in
    let apart = apart_at first keys (IsDistinct-head same_kept first keys distinct) index (omega (arith, within, long)) in
    rw apart (ap (option_map suc) (different keys (IsDistinct-tail same_kept first keys distinct) index (omega (arith, within))))

-- where different literals are searched, a key is found at its literal's index
pub found_index : (keys : List KeptLit) (key : KeptLit) → AreDifferent (map lit_of keys) → (found : Option ℕ) → found ≡ position (same_kept key) keys → is_some found ≡ list_any (same_kept key) keys
    → found ≡ index_of (map lit_of keys) (lit_of key)
found_index keys key apart None at is = sym (no_index (map lit_of keys) (lit_of key) (sym (any_held keys key) ∙ sym is))
found_index keys key apart (Some index) at is =
    let there = position-Some (same_kept key) keys index key (sym at) in
    let same = (lits_equal (lit_of key) (lit_of (get_or keys index key))).0 there.1 in
    let long : length (map lit_of keys) ≡ length keys = length-map keys lit_of in
    let own = apart index (omega (arith, there.0, long)) in
    sym own ∙ ap (index_of (map lit_of keys)) (get_or-map lit_of keys index key no_lit there.0 ∙ sym same)

-- the keys with one more stand for the literals with a new one
pub inserted : (keys : List KeptLit) (key : KeptLit) → map lit_of (insert_key same_kept keys key) ≡ with_new (map lit_of keys) (lit_of key)
inserted keys key = by (list_any (same_kept key) keys) refl
  where
    by : (found : Bool) → list_any (same_kept key) keys ≡ found → map lit_of (insert_key same_kept keys key) ≡ with_new (map lit_of keys) (lit_of key)
    by true is = rw (is, sym (any_held keys key) ∙ is) refl
    by false is = rw (is, sym (any_held keys key) ∙ is) (map-append lit_of keys (key ∷ []))

-- a key that stands at an index has its literal there, and nowhere before
pub own_index : (keys : List KeptLit) (key stored : KeptLit) (index : ℕ) → AreDifferent (map lit_of keys) → slice_get keys index ≡ Some stored → same_kept key stored ≡ true
    → index_of (map lit_of keys) (lit_of key) ≡ Some index
own_index keys key stored index apart at same =
    let within = slice_get_within keys index stored at in
    let is = get_or_from_slice_get keys index stored key at in
    let long : length (map lit_of keys) ≡ length keys = length-map keys lit_of in
    let one : lit_of key ≡ lit_at (map lit_of keys) index =
    (lits_equal (lit_of key) (lit_of stored)).0 same ∙ sym (ap lit_of is) ∙ sym (get_or-map lit_of keys index key no_lit within) in
    ap (index_of (map lit_of keys)) one ∙ apart index (omega (arith, within, long))
