-- What the findings of rules say of the choices that keep them.
use Rattle.std.proofs.Common.{◌≡◌, ℕ, zero, suc, ◌<◌, Bool, true, false, true≢false, not, ◌||◌, nat_eq, List, [], ◌∷◌, length, get_or, refl, sym, ap, ◌∙◌, inl, inr, arith}
use Rattle.std.specs.List.{list_any, list_all}
use Rattle.std.proofs.lemmas.Bool.{eqb-true}
use Rattle.std.proofs.lemmas.List.Elements.{All-head, All-tail}
use Rattle.mg_word.proofs.Members.{both_true, and_true, not_true, not_false, never_true, never_false, or_true, either_true}
use Rattle.minimal_test.specs.declared.rule.Rule.{Rule}
use Rattle.minimal_test.specs.declared.side.Side.{Side}
use Rattle.minimal_test.specs.declared.side.Side.TheVariants.{Open, In, Out}
use Rattle.minimal_test.specs.Choices.{is_broken, keeps, side_at, is_on, chosen_of}
use Rattle.minimal_test.specs.Rests.{are_on, are_but}
use Rattle.minimal_test.specs.Findings.{is_conflict, forces, IsQuiet, has_conflict, AreClosed, AreFull}
use Rattle.minimal_test.specs.Paths.{Agrees, IsDead, IsStep}

-- the side of a place that is on it
on_in : (side : Side) → is_on true side ≡ true → side ≡ In
on_in Open e = absurd (true≢false (sym e))
on_in In e = refl
on_in Out e = absurd (true≢false (sym e))

on_out : (side : Side) → is_on false side ≡ true → side ≡ Out
on_out Open e = absurd (true≢false (sym e))
on_out In e = absurd (true≢false (sym e))
on_out Out e = refl

module _ (sides : List Side) (chosen : ℕ → Bool) (agrees : Agrees sides chosen) where
  in_chosen : (place : ℕ) → is_on true (side_at sides place) ≡ true → chosen place ≡ true
  in_chosen place e = agrees place true (on_in (side_at sides place) e)

  out_chosen : (place : ℕ) → is_on false (side_at sides place) ≡ true → chosen place ≡ false
  out_chosen place e = agrees place false (on_out (side_at sides place) e)

  all_chosen : (places : List ℕ) → are_on sides true places ≡ true → list_all chosen places ≡ true
  all_chosen [] e = refl
  all_chosen (place ∷ places) e =
      let parts = both_true (is_on true (side_at sides place)) (are_on sides true places) e in
      and_true (chosen place) (list_all chosen places) (in_chosen place parts.0) (all_chosen places parts.1)

  none_chosen : (places : List ℕ) → are_on sides false places ≡ true → list_any chosen places ≡ false
  none_chosen [] e = refl
  none_chosen (place ∷ places) e =
      let parts = both_true (is_on false (side_at sides place)) (are_on sides false places) e in
      never_true (chosen place || list_any chosen places) (λ any. elim (either_true (chosen place) (list_any chosen places) any) [
        | inl is ↦ true≢false (sym is ∙ out_chosen place parts.0)
        | inr later ↦ true≢false (sym later ∙ none_chosen places parts.1)
      ])

  all_but_chosen : (other : ℕ) → chosen other ≡ true → (places : List ℕ) → are_but sides true other places ≡ true → list_all chosen places ≡ true
  all_but_chosen other there [] e = refl
  all_but_chosen other there (place ∷ places) e =
      let parts = both_true (is_on true (side_at sides place) || nat_eq place other) (are_but sides true other places) e in
      and_true (chosen place) (list_all chosen places)
      (elim (either_true (is_on true (side_at sides place)) (nat_eq place other) parts.0) [
        | inl on ↦ in_chosen place on
        | inr at ↦ ap chosen (eqb-true place other at) ∙ there
      ])
      (all_but_chosen other there places parts.1)

  none_but_chosen : (other : ℕ) → chosen other ≡ false → (places : List ℕ) → are_but sides false other places ≡ true → list_any chosen places ≡ false
  none_but_chosen other out [] e = refl
  none_but_chosen other out (place ∷ places) e =
      let parts = both_true (is_on false (side_at sides place) || nat_eq place other) (are_but sides false other places) e in
      never_true (chosen place || list_any chosen places) (λ any. elim (either_true (chosen place) (list_any chosen places) any) [
        | inl is ↦ true≢false (sym is ∙ elim (either_true (is_on false (side_at sides place)) (nat_eq place other) parts.0) [
          | inl on ↦ out_chosen place on
          | inr at ↦ ap chosen (eqb-true place other at) ∙ out
        ])
        | inr later ↦ true≢false (sym later ∙ none_but_chosen other out places parts.1)
      ])

  -- a choice that agrees breaks a conflict
  conflict_broken : (rule : Rule) → is_conflict sides rule ≡ true → is_broken chosen rule ≡ true
  conflict_broken rule e =
      let parts = both_true (are_on sides true rule.premises) (are_on sides false rule.conclusions) e in
      and_true (list_all chosen rule.premises) (not (list_any chosen rule.conclusions)) (all_chosen rule.premises parts.0) (not_false (list_any chosen rule.conclusions) (none_chosen rule.conclusions parts.1))

  -- and one that keeps the rule has each forced place where it is forced to
  pub forced_chosen : (rule : Rule) (place : ℕ) (is_in : Bool) → forces sides rule place is_in ≡ true → is_broken chosen rule ≡ false → chosen place ≡ is_in
  forced_chosen rule place true e kept = never_false (chosen place) (λ out.
      let parts = both_true (are_on sides true rule.premises) (are_but sides false place rule.conclusions) e in
      true≢false (sym (and_true (list_all chosen rule.premises) (not (list_any chosen rule.conclusions)) (all_chosen rule.premises parts.0) (not_false (list_any chosen rule.conclusions) (none_but_chosen place out rule.conclusions parts.1))) ∙ kept))
  forced_chosen rule place false e kept = never_true (chosen place) (λ there.
      let parts = both_true (are_but sides true place rule.premises) (are_on sides false rule.conclusions) e in
      true≢false (sym (and_true (list_all chosen rule.premises) (not (list_any chosen rule.conclusions)) (all_but_chosen place there rule.premises parts.0) (not_false (list_any chosen rule.conclusions) (none_chosen rule.conclusions parts.1))) ∙ kept))

-- what keeps the rules keeps each
pub kept_at : (chosen : ℕ → Bool) (rules : List Rule) (k : ℕ) (d : Rule) → keeps chosen rules ≡ true → k < length rules → is_broken chosen (get_or rules k d) ≡ false
kept_at chosen [] k d kept within = absurd (omega arith)
kept_at chosen (rule ∷ rules) zero d kept within = not_true (is_broken chosen rule) (both_true (not (is_broken chosen rule)) (keeps chosen rules) kept).0
kept_at chosen (rule ∷ rules) (suc k) d kept within = kept_at chosen rules k d (both_true (not (is_broken chosen rule)) (keeps chosen rules) kept).1 (omega arith)

-- where a rule is a conflict, no choice that agrees keeps them
pub conflict_dead : (sides : List Side) (rules : List Rule) → has_conflict sides rules ≡ true → IsDead rules sides
conflict_dead sides [] e = absurd (true≢false (sym e))
conflict_dead sides (rule ∷ rules) e = λ chosen kept agrees.
    let parts = both_true (not (is_broken chosen rule)) (keeps chosen rules) kept in
    elim (either_true (is_conflict sides rule) (has_conflict sides rules) e) [
      | inl is ↦ true≢false (sym (conflict_broken sides chosen agrees rule is) ∙ not_true (is_broken chosen rule) parts.0)
      | inr later ↦ conflict_dead sides rules later chosen parts.1 agrees
    ]

pub conflict_at : (sides : List Side) (rules : List Rule) (k : ℕ) (rule : Rule) → k < length rules → rule ≡ get_or rules k rule → is_conflict sides rule ≡ true → has_conflict sides rules ≡ true
conflict_at sides [] k rule within at e = absurd (omega arith)
conflict_at sides (first ∷ rules) zero rule within at e = or_true (is_conflict sides first) (has_conflict sides rules) (inl (ap (is_conflict sides) (sym at) ∙ e))
conflict_at sides (first ∷ rules) (suc k) rule within at e = or_true (is_conflict sides first) (has_conflict sides rules) (inr (conflict_at sides rules k rule (omega arith) at e))

-- a place that one of the rules forces is a step
pub forced_step : (sides : List Side) (rules : List Rule) (k : ℕ) (rule : Rule) (place : ℕ) (is_in : Bool) → k < length rules → rule ≡ get_or rules k rule → side_at sides place ≡ Open → forces sides rule place is_in ≡ true
    → IsStep rules sides (record { place = place; is_in = is_in; is_tried = false })
forced_step sides rules k rule place is_in within at open_place e = record {
  open_place = open_place;
  tried = λ bad. absurd (true≢false (sym bad));
  closed = λ bad. absurd (true≢false (sym bad));
  forced = λ _ chosen kept agrees. forced_chosen sides chosen agrees rule place is_in e (ap (is_broken chosen) at ∙ kept_at chosen rules k rule kept within);
}

-- a trial is a step, where the sides are closed
pub tried_step : (rules : List Rule) (sides : List Side) (place : ℕ) → side_at sides place ≡ Open → AreClosed sides rules → IsStep rules sides (record { place = place; is_in = false; is_tried = true })
tried_step rules sides place open_place closed = record { open_place = open_place; tried = λ _. refl; closed = λ _. closed; forced = λ bad. absurd (true≢false bad) }

-- sides that are closed and full are a choice that keeps the rules
pub closed_keeps : (sides : List Side) (rules : List Rule) → AreClosed sides rules → AreFull sides → keeps (chosen_of sides) rules ≡ true
closed_keeps sides [] closed full = refl
closed_keeps sides (rule ∷ rules) closed full =
    and_true (not (is_broken (chosen_of sides) rule)) (keeps (chosen_of sides) rules)
    (not_false (is_broken (chosen_of sides) rule) (never_true (is_broken (chosen_of sides) rule) (λ broken.
    let parts = both_true (list_all (chosen_of sides) rule.premises) (not (list_any (chosen_of sides) rule.conclusions)) broken in
    let quiet = All-head (IsQuiet sides) rule rules closed in
    true≢false (sym (and_true (are_on sides true rule.premises) (are_on sides false rule.conclusions) parts.0 (all_out rule.conclusions (not_true (list_any (chosen_of sides) rule.conclusions) parts.1))) ∙ quiet.kept))))
    (closed_keeps sides rules (All-tail (IsQuiet sides) rule rules closed) full)
  where
    decided : (side : Side) → (side ≡ Open → ⊥) → is_on true side ≡ false → is_on false side ≡ true
    decided Open never e = absurd (never refl)
    decided In never e = absurd (true≢false e)
    decided Out never e = refl

    all_out : (places : List ℕ) → list_any (chosen_of sides) places ≡ false → are_on sides false places ≡ true
    all_out [] e = refl
    all_out (place ∷ places) e =
        and_true (is_on false (side_at sides place)) (are_on sides false places)
        (decided (side_at sides place) (full place) (never_true (is_on true (side_at sides place)) (λ on. true≢false (sym (or_true (chosen_of sides place) (list_any (chosen_of sides) places) (inl on)) ∙ e))))
        (all_out places (never_true (list_any (chosen_of sides) places) (λ later. true≢false (sym (or_true (chosen_of sides place) (list_any (chosen_of sides) places) (inr later)) ∙ e))))
