-- Where a literal first stands, and whether it is there.
use Rattle.std.proofs.Common.{◌≡◌, ℕ, suc, ◌<◌, Bool, true, false, true≢false, ◌||◌, List, [], ◌∷◌, length, get_or, Option, Some, None, refl, sym, ap, ◌∙◌, arith, if◌then◌else◌}
use Rattle.std.specs.Option.{option_map, is_some}
use Rattle.mg_word.specs.OrderLaws.{lits_equal}
use Rattle.mg_word.specs.Sets.{same_lit, holds}
use Rattle.mg_word.specs.declared.lit.Lit.{Lit}
use Rattle.tree_checker.specs.Indices.{index_of}

-- a literal has an index where it is in the list
pub index_held : (lits : List Lit) (lit : Lit) → is_some (index_of lits lit) ≡ holds lits lit
index_held [] lit = refl
index_held (held ∷ lits) lit = by (same_lit held lit) (index_of lits lit) (index_held lits lit)
  where
    by : (same : Bool) (later : Option ℕ) → is_some later ≡ holds lits lit → is_some (if same then Some 0 else option_map suc later) ≡ (same || holds lits lit)
    by true later is = refl
    by false None is = is
    by false (Some index) is = is

pub no_index : (lits : List Lit) (lit : Lit) → holds lits lit ≡ false → index_of lits lit ≡ None
no_index lits lit missing = by (index_of lits lit) (index_held lits lit ∙ missing)
  where
    by : (index : Option ℕ) → is_some index ≡ false → index ≡ None
    by None e = refl
    by (Some index) e = absurd (true≢false e)

-- the index is below the length, and the literal stands at it
pub index_at : (lits : List Lit) (lit none : Lit) (index : ℕ) → index_of lits lit ≡ Some index → (index < length lits) × (get_or lits index none ≡ lit)
index_at [] lit none index at = let bad : ⊥ = cc in absurd bad
index_at (held ∷ lits) lit none index at = by (same_lit held lit) refl (index_of lits lit) (index_at lits lit none) at
  where
    by : (same : Bool) → same_lit held lit ≡ same → (later : Option ℕ) → ((index : ℕ) → later ≡ Some index → (index < length lits) × (get_or lits index none ≡ lit))
        → (if same then Some 0 else option_map suc later) ≡ Some index → (index < length (held ∷ lits)) × (get_or (held ∷ lits) index none ≡ lit)
    by true is later go at = let zero : 0 ≡ index = cc in (omega (arith, zero), ap (λ index. get_or (held ∷ lits) index none) (sym zero) ∙ (lits_equal held lit).0 is)
    by false is None go at = let bad : ⊥ = cc in absurd bad
    by false is (Some inner) go at =
        let more : suc inner ≡ index = cc in
        let there = go inner refl in
        (omega (arith, more, there.0), ap (λ index. get_or (held ∷ lits) index none) (sym more) ∙ there.1)
