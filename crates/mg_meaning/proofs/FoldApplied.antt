-- A folded pair applies at a node whose premises are held, where each child's pair applies at its child.
use Rattle.std.proofs.Common.{◌≡◌, Bool, true, false, true≢false, List, [], ◌∷◌, ◌++◌, refl, sym, subst, ◌∙◌, ◌⊎◌, inl, inr}
use Rattle.mg_word.specs.OrderLaws.{lits_equal}
use Rattle.mg_word.specs.Sets.{same_lit, holds, is_part, with_lit, set_of}
use Rattle.mg_word.specs.Words.{complement_of}
use Rattle.mg_word.specs.declared.lit.Lit.{Lit}
use Rattle.mg_word.specs.declared.form.Inst.{Inst}
use Rattle.mg_word.proofs.Members.{either_true, both_true, and_true, holds-append, holds_cases, holds_first, holds_later, holds_left, holds_right, part_holds, part_from, part-append}
use Rattle.mg_word.proofs.RisingLists.{holds-with_lit, holds-set_of}
use Rattle.mg_meaning.specs.Folding.{Pair, applies, ApplyAtChildren, without, insides, outsides, folded, rejecting, clashing, barring}

-- what is left is there, and was not taken out
pub without_parts : (taken lits : List Lit) (lit : Lit) → holds (without taken lits) lit ≡ true → (holds lits lit ≡ true) × (holds taken lit ≡ false)
without_parts taken [] lit there = absurd (true≢false (sym there))
without_parts taken (first ∷ lits) lit there = by (holds taken first) refl there (without_parts taken lits lit)
  where
    later : (holds lits lit ≡ true) × (holds taken lit ≡ false) → (holds (first ∷ lits) lit ≡ true) × (holds taken lit ≡ false)
    later parts = (holds_later first lits lit parts.0, parts.1)

    by : (out : Bool) → holds taken first ≡ out → holds (without taken (first ∷ lits)) lit ≡ true → (holds (without taken lits) lit ≡ true → (holds lits lit ≡ true) × (holds taken lit ≡ false))
        → (holds (first ∷ lits) lit ≡ true) × (holds taken lit ≡ false)
    by true is there go = later (go (rw is at there))
    by false is there go = elim (holds_cases first (without taken lits) lit (rw is at there)) [
      | inl same ↦ (subst (λ one. holds (first ∷ lits) one ≡ true) same (holds_first first lits), subst (λ one. holds taken one ≡ false) same is)
      | inr left ↦ later (go left)
    ]

-- a literal of a list with one more behind
held_or_new : (held : List Lit) (conclusion lit : Lit) → holds (held ++ conclusion ∷ []) lit ≡ true → (holds held lit ≡ true) ⊎ (holds (conclusion ∷ []) lit ≡ true)
held_or_new held conclusion lit there = either_true (holds held lit) (holds (conclusion ∷ []) lit) (sym (holds-append held (conclusion ∷ []) lit) ∙ there)

-- what the children's pairs are folded from is held and barred here
pub record AreGathered (held barred before conclusions : List Lit) (pairs : List Pair) : Type 0 where
  pub inside : is_part (insides conclusions pairs) held ≡ true
  pub outside : is_part (outsides before conclusions pairs) barred ≡ true

-- the children's barred sets hold nothing but conclusions before them and what is barred here
pub gathered : (held barred before bars conclusions : List Lit) (pairs : List Pair) → ((lit : Lit) → holds bars lit ≡ true → (holds before lit ≡ true) ⊎ (holds barred lit ≡ true))
    → ApplyAtChildren held bars conclusions pairs → AreGathered held barred before conclusions pairs
gathered held barred before bars [] [] only each = record { inside = refl; outside = refl }
gathered held barred before bars [] (pair ∷ pairs) only each = absurd each
gathered held barred before bars (conclusion ∷ conclusions) [] only each = absurd each
gathered held barred before bars (conclusion ∷ conclusions) (pair ∷ pairs) only (first, each) =
    let rest = gathered held barred (before ++ conclusion ∷ []) (with_lit bars conclusion) conclusions pairs still_only each in
    record {
      inside = part-append (without (conclusion ∷ []) pair.inside) (insides conclusions pairs) held own_inside rest.inside;
      outside = part-append (without before pair.outside) (outsides (before ++ conclusion ∷ []) conclusions pairs) barred own_outside rest.outside;
    }
  where
    own : (is_part pair.inside (held ++ conclusion ∷ []) ≡ true) × (is_part pair.outside bars ≡ true)
    own = both_true (is_part pair.inside (held ++ conclusion ∷ [])) (is_part pair.outside bars) first

    own_inside : is_part (without (conclusion ∷ []) pair.inside) held ≡ true
    own_inside = part_from (without (conclusion ∷ []) pair.inside) held (λ lit there.
        let left = without_parts (conclusion ∷ []) pair.inside lit there in
        elim (held_or_new held conclusion lit (part_holds pair.inside (held ++ conclusion ∷ []) lit own.0 left.0)) [
          | inl old ↦ old
          | inr new ↦ absurd (true≢false (sym new ∙ left.1))
        ])

    own_outside : is_part (without before pair.outside) barred ≡ true
    own_outside = part_from (without before pair.outside) barred (λ lit there.
        let left = without_parts before pair.outside lit there in
        elim (only lit (part_holds pair.outside bars lit own.1 left.0)) [
          | inl early ↦ absurd (true≢false (sym early ∙ left.1))
          | inr old ↦ old
        ])

    still_only : (lit : Lit) → holds (with_lit bars conclusion) lit ≡ true → (holds (before ++ conclusion ∷ []) lit ≡ true) ⊎ (holds barred lit ≡ true)
    still_only lit there = elim (either_true (same_lit conclusion lit) (holds bars lit) (sym (holds-with_lit bars conclusion lit) ∙ there)) [
      | inl same ↦ inl (holds_right before (conclusion ∷ []) lit (subst (λ one. holds (conclusion ∷ []) one ≡ true) ((lits_equal conclusion lit).0 same) (holds_first conclusion [])))
      | inr old ↦ elim (only lit old) [
        | inl early ↦ inl (holds_left before (conclusion ∷ []) lit early)
        | inr barred_here ↦ inr barred_here
      ]
    ]

-- the set of a list is a part of what the list is a part of
pub set_part : (lits whole : List Lit) → is_part lits whole ≡ true → is_part (set_of lits) whole ≡ true
set_part lits whole is = part_from (set_of lits) whole (λ lit there. part_holds lits whole lit is (sym (holds-set_of lits lit) ∙ there))

pub applies_from : (pair : Pair) (held barred : List Lit) → is_part pair.inside held ≡ true → is_part pair.outside barred ≡ true → applies pair held barred ≡ true
applies_from pair held barred one two = and_true (is_part pair.inside held) (is_part pair.outside barred) one two

pub folded_applies : (inst : Inst) (held barred : List Lit) (pairs : List Pair) → is_part inst.premises held ≡ true → ApplyAtChildren held barred inst.conclusions pairs → applies (folded inst pairs) held barred ≡ true
folded_applies inst held barred pairs premises each =
    let parts = gathered held barred [] barred inst.conclusions pairs (λ lit there. inr there) each in
    applies_from (folded inst pairs) held barred
    (set_part (inst.premises ++ insides inst.conclusions pairs) held (part-append inst.premises (insides inst.conclusions pairs) held premises parts.inside))
    (set_part (outsides [] inst.conclusions pairs) barred parts.outside)

pub rejecting_applies : (inst : Inst) (held barred : List Lit) → is_part inst.premises held ≡ true → applies (rejecting inst) held barred ≡ true
rejecting_applies inst held barred premises = applies_from (rejecting inst) held barred (set_part inst.premises held premises) refl

pub clashing_applies : (lit : Lit) (held barred : List Lit) → holds held lit ≡ true → holds held (complement_of lit) ≡ true → applies (clashing lit) held barred ≡ true
clashing_applies lit held barred one two =
    applies_from (clashing lit) held barred
    (set_part (lit ∷ complement_of lit ∷ []) held (and_true (holds held lit) (is_part (complement_of lit ∷ []) held) one (and_true (holds held (complement_of lit)) true two refl))) refl

pub barring_applies : (lit : Lit) (held barred : List Lit) → holds held lit ≡ true → holds barred lit ≡ true → applies (barring lit) held barred ≡ true
barring_applies lit held barred one two =
    applies_from (barring lit) held barred (and_true (holds held lit) true one refl) (and_true (holds barred lit) true two refl)
