-- Keys by their numbers, where one is added.
use Rattle.std.proofs.Common.{◌≡◌, ℕ, Bool, true, false, true≢false, List, [], ◌∷◌, ◌++◌, length, slice_get, OnErr, OnOk, Option, Some, Result, Ok, Err, refl, sym, ap, ◌∙◌, inl, inr, if◌then◌else◌}
use Rattle.mg_word.specs.OrderLaws.{lits_equal}
use Rattle.mg_word.specs.Sets.{same_lit}
use Rattle.mg_word.specs.declared.lit.Lit.{Lit}
use Rattle.key_watch.specs.declared.key.Key.{Key}
use Rattle.key_watch.specs.declared.key.Side.{Side}
use Rattle.key_watch.specs.declared.key.Side.TheVariants.{Barred, Held}
use Rattle.key_watch.specs.KeyNumbers.{AreDifferent, AreNumbers}
use Rattle.key_watch.specs.Keys.{barred_key, held_key}
use Rattle.key_watch.proofs.Membership.{get_last, get_left, get_more, same_some}

module _ (keys : List Key) (key_of : Lit → Key) (number_of : Lit → Option ℕ) (numbers : AreNumbers keys key_of number_of) where
  -- one of the side
  pub number_more : (lit : Lit) → ((a b : Lit) → key_of a ≡ key_of b → a ≡ b) → ((number : ℕ) → slice_get keys number ≡ Some (key_of lit) → ⊥) → (number_of' : Lit → Option ℕ)
      → ((one : Lit) → number_of' one ≡ (if same_lit lit one then Some (length keys) else number_of one)) → AreNumbers (keys ++ key_of lit ∷ []) key_of number_of'
  number_more lit apart absent number_of' updated = record {
    there = λ number one e. there number one (same_lit lit one) refl (sym (updated one) ∙ e);
    all = λ number one e. updated one ∙ all number one (same_lit lit one) refl e;
  }
    where
      there : (number : ℕ) (one : Lit) (same : Bool) → same_lit lit one ≡ same → (if same then Some (length keys) else number_of one) ≡ Some number → slice_get (keys ++ key_of lit ∷ []) number ≡ Some (key_of one)
      there number one true is e =
          let number_is = same_some (length keys) number e in
          ap (slice_get (keys ++ key_of lit ∷ [])) (sym number_is) ∙ (get_last keys (key_of lit) ∙ ap (λ l. Some (key_of l)) ((lits_equal lit one).0 is))
      there number one false is e = get_left keys (key_of lit ∷ []) number (key_of one) (numbers.there number one e)

      all : (number : ℕ) (one : Lit) (same : Bool) → same_lit lit one ≡ same → slice_get (keys ++ key_of lit ∷ []) number ≡ Some (key_of one) → (if same then Some (length keys) else number_of one) ≡ Some number
      all number one true is e = elim (get_more keys (key_of lit) number (key_of one) e) [
        | inl old ↦ absurd (absent number (old ∙ ap (λ l. Some (key_of l)) (sym ((lits_equal lit one).0 is))))
        | inr (at, same) ↦ ap Some (sym at)
      ]
      all number one false is e = elim (get_more keys (key_of lit) number (key_of one) e) [
        | inl old ↦ numbers.all number one old
        | inr (at, same) ↦ absurd (true≢false (sym ((lits_equal lit one).1 (apart lit one (sym same))) ∙ is))
      ]

  -- one of the other side
  pub number_other : (key : Key) → ((lit : Lit) → key_of lit ≡ key → ⊥) → AreNumbers (keys ++ key ∷ []) key_of number_of
  number_other key apart = record {
    there = λ number one e. get_left keys (key ∷ []) number (key_of one) (numbers.there number one e);
    all = λ number one e. elim (get_more keys key number (key_of one) e) [
      | inl old ↦ numbers.all number one old
      | inr (at, same) ↦ absurd (apart one same)
    ];
  }

  -- the same numbers from another map
  pub number_same : (number_of' : Lit → Option ℕ) → ((one : Lit) → number_of' one ≡ number_of one) → AreNumbers keys key_of number_of'
  number_same number_of' same = record { there = λ number one e. numbers.there number one (sym (same one) ∙ e); all = λ number one e. same one ∙ numbers.all number one e }

-- what follows from an answer either way
pub either_way : {X E : Type 0} (answer : Result X E) (P Q R S G : Type 0) → OnOk answer P → OnOk answer Q → OnErr answer R → OnErr answer S → (P → Q → G) → (R → S → G) → G
either_way (Ok x) P Q R S G p q r s ok err = ok p q
either_way (Err e) P Q R S G p q r s ok err = err r s

pub held_apart : (key one : Lit) → held_key one ≡ barred_key key → ⊥
held_apart key one e = let sides : Held ≡ Barred = ap (λ (one : Key). one.side) e in let bad : ⊥ = cc in bad

pub barred_apart : (key one : Lit) → barred_key one ≡ held_key key → ⊥
barred_apart key one e = let sides : Barred ≡ Held = ap (λ (one : Key). one.side) e in let bad : ⊥ = cc in bad

pub held_same : (a b : Lit) → held_key a ≡ held_key b → a ≡ b
held_same a b e = ap (λ (key : Key). key.lit) e

pub barred_same : (a b : Lit) → barred_key a ≡ barred_key b → a ≡ b
barred_same a b e = ap (λ (key : Key). key.lit) e

-- a table has no key twice
pub are_different : (keys : List Key) (held barred : Lit → Option ℕ) → AreNumbers keys held_key held → AreNumbers keys barred_key barred → AreDifferent keys
are_different keys held barred helds barreds i j key i_is j_is = by key.side refl
  where
    by : (side : Side) → key.side ≡ side → i ≡ j
    by Held e =
        let is : key ≡ held_key key.lit = λ k. record { side = e k; lit = key.lit } in
        same_some i j (sym (helds.all i key.lit (i_is ∙ ap Some is)) ∙ helds.all j key.lit (j_is ∙ ap Some is))
    by Barred e =
        let is : key ≡ barred_key key.lit = λ k. record { side = e k; lit = key.lit } in
        same_some i j (sym (barreds.all i key.lit (i_is ∙ ap Some is)) ∙ barreds.all j key.lit (j_is ∙ ap Some is))
