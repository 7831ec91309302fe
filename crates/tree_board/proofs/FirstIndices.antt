-- Where a literal first stands once one is added on top or taken.
use Rattle.std.proofs.Common.{◌≡◌, ℕ, ◌+◌, ◌<◌, Bool, true, false, true≢false, ◌||◌, cond, List, [], ◌∷◌, ◌++◌, length, Option, Some, None, refl, sym, ap, ◌∙◌, arith, if◌then◌else◌}
use Rattle.std.specs.Option.{option_map, is_some}
use Rattle.mg_word.specs.OrderLaws.{lits_equal}
use Rattle.mg_word.specs.Sets.{same_lit, holds}
use Rattle.mg_word.specs.declared.lit.Lit.{Lit}
use Rattle.tree_board.specs.BarredIndices.{index_of}

-- a literal has an index where it is in the list
pub index_held : (lits : List Lit) (lit : Lit) → is_some (index_of lits lit) ≡ holds lits lit
index_held [] lit = refl
index_held (held ∷ lits) lit = by (same_lit held lit) (index_of lits lit) (index_held lits lit)
  where
    by : (same : Bool) (later : Option ℕ) → is_some later ≡ holds lits lit → is_some (if same then Some 0 else option_map (λ index. index + 1) later) ≡ (same || holds lits lit)
    by true later is = refl
    by false None is = is
    by false (Some index) is = is

pub no_index : (lits : List Lit) (lit : Lit) → holds lits lit ≡ false → index_of lits lit ≡ None
no_index lits lit missing = by (index_of lits lit) (index_held lits lit ∙ missing)
  where
    by : (index : Option ℕ) → is_some index ≡ false → index ≡ None
    by None e = refl
    by (Some index) e = absurd (true≢false e)

pub index_below : (lits : List Lit) (lit : Lit) (index : ℕ) → index_of lits lit ≡ Some index → index < length lits
index_below [] lit index at = let bad : ⊥ = cc in absurd bad
index_below (held ∷ lits) lit index at = by (same_lit held lit) (index_of lits lit) (index_below lits lit) at
  where
    by : (same : Bool) (later : Option ℕ) → ((index : ℕ) → later ≡ Some index → index < length lits) → (if same then Some 0 else option_map (λ index. index + 1) later) ≡ Some index → index < length (held ∷ lits)
    by true later below at = let is : 0 ≡ index = cc in omega arith
    by false None below at = let bad : ⊥ = cc in absurd bad
    by false (Some inner) below at = let is : inner + 1 ≡ index = cc in let small = below inner refl in omega arith

-- a literal that is there keeps its index
pub index_kept : (lits : List Lit) (new lit : Lit) → holds lits lit ≡ true → index_of (lits ++ new ∷ []) lit ≡ index_of lits lit
index_kept [] new lit there = absurd (true≢false (sym there))
index_kept (held ∷ lits) new lit there = by (same_lit held lit) there (index_kept lits new lit)
  where
    by : (same : Bool) → (same || holds lits lit) ≡ true → (holds lits lit ≡ true → index_of (lits ++ new ∷ []) lit ≡ index_of lits lit)
        → (if same then Some 0 else option_map (λ index. index + 1) (index_of (lits ++ new ∷ []) lit)) ≡ (if same then Some 0 else option_map (λ index. index + 1) (index_of lits lit))
    by true there kept = refl
    by false there kept = ap (option_map (λ index. index + 1)) (kept there)

-- one that is not there stands where the new one does, or nowhere
pub index_pushed : (lits : List Lit) (new lit : Lit) → holds lits lit ≡ false → index_of (lits ++ new ∷ []) lit ≡ cond (same_lit new lit) (Some (length lits)) None
index_pushed [] new lit missing = refl
index_pushed (held ∷ lits) new lit missing = by (same_lit held lit) missing (index_pushed lits new lit) (same_lit new lit) refl
  where
    by : (same : Bool) → (same || holds lits lit) ≡ false → (holds lits lit ≡ false → index_of (lits ++ new ∷ []) lit ≡ cond (same_lit new lit) (Some (length lits)) None) → (last : Bool) → same_lit new lit ≡ last
        → (if same then Some 0 else option_map (λ index. index + 1) (index_of (lits ++ new ∷ []) lit)) ≡ cond (same_lit new lit) (Some (length (held ∷ lits))) None
    by true missing pushed last is = absurd (true≢false missing)
    by false missing pushed true is = let more : length lits + 1 ≡ length (held ∷ lits) = omega arith in rw (pushed missing, is, more) refl
    by false missing pushed false is = rw (pushed missing, is) refl

pub held_or_not : (lits : List Lit) (lit : Lit) (P : Type 0) → (holds lits lit ≡ true → P) → (holds lits lit ≡ false → P) → P
held_or_not lits lit P if_held if_not = by (holds lits lit) refl
  where
    by : (there : Bool) → holds lits lit ≡ there → P
    by true e = if_held e
    by false e = if_not e

-- a literal that is there already changes no index
pub index_known : (lits : List Lit) (new : Lit) → holds lits new ≡ true → (lit : Lit) → index_of (lits ++ new ∷ []) lit ≡ index_of lits lit
index_known lits new there lit =
    held_or_not lits lit (index_of (lits ++ new ∷ []) lit ≡ index_of lits lit) (index_kept lits new lit)
    (λ missing. by (same_lit new lit) refl missing)
  where
    by : (same : Bool) → same_lit new lit ≡ same → holds lits lit ≡ false → index_of (lits ++ new ∷ []) lit ≡ index_of lits lit
    by true is missing = let one = (lits_equal new lit).0 is in absurd (true≢false (sym there ∙ ap (holds lits) one ∙ missing))
    by false is missing = index_pushed lits new lit missing ∙ rw (is, no_index lits lit missing) refl

-- a new literal has its index, and no other changes
pub index_new : (lits : List Lit) (new : Lit) → holds lits new ≡ false → (lit : Lit) → index_of (lits ++ new ∷ []) lit ≡ cond (same_lit new lit) (Some (length lits)) (index_of lits lit)
index_new lits new missing lit = by (same_lit new lit) refl
  where
    by : (same : Bool) → same_lit new lit ≡ same → index_of (lits ++ new ∷ []) lit ≡ cond (same_lit new lit) (Some (length lits)) (index_of lits lit)
    by true is =
        let one = (lits_equal new lit).0 is in
        let none : holds lits lit ≡ false = ap (holds lits) (sym one) ∙ missing in
        index_pushed lits new lit none ∙ rw is refl
    by false is =
        held_or_not lits lit (index_of (lits ++ new ∷ []) lit ≡ cond (same_lit new lit) (Some (length lits)) (index_of lits lit))
        (λ there. index_kept lits new lit there ∙ rw is refl)
        (λ none. index_pushed lits new lit none ∙ rw (is, no_index lits lit none) refl)

-- the last literal is where it first stands: without it, it stands nowhere
pub index_taken : (lits : List Lit) (last : Lit) → index_of (lits ++ last ∷ []) last ≡ Some (length lits)
    → (lit : Lit) → cond (same_lit last lit) None (index_of (lits ++ last ∷ []) lit) ≡ index_of lits lit
index_taken lits last at lit =
    held_or_not lits last (cond (same_lit last lit) None (index_of (lits ++ last ∷ []) lit) ≡ index_of lits lit)
    (λ there. let below = index_below lits last (length lits) (sym (index_known lits last there last) ∙ at) in absurd (omega arith))
    (λ missing. by missing (same_lit last lit) refl)
  where
    by : holds lits last ≡ false → (same : Bool) → same_lit last lit ≡ same → cond (same_lit last lit) None (index_of (lits ++ last ∷ []) lit) ≡ index_of lits lit
    by missing true is =
        let one = (lits_equal last lit).0 is in
        rw is (sym (no_index lits lit (ap (holds lits) (sym one) ∙ missing)))
    by missing false is = rw is (index_new lits last missing lit ∙ rw is refl)

-- the last literal stands earlier too: without it, no index changes
pub index_left : (lits : List Lit) (last : Lit) → (index_of (lits ++ last ∷ []) last ≡ Some (length lits) → ⊥)
    → (lit : Lit) → index_of (lits ++ last ∷ []) lit ≡ index_of lits lit
index_left lits last apart lit =
    held_or_not lits last (index_of (lits ++ last ∷ []) lit ≡ index_of lits lit)
    (λ there. index_known lits last there lit)
    (λ missing. absurd (apart (index_new lits last missing last ∙ rw ((lits_equal last last).1 refl) refl)))
