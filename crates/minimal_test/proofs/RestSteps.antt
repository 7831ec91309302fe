-- What is left of a list of places, place by place, and what it makes of a rule.
use Rattle.std.proofs.Common.{◌≡◌, ◌≢◌, ℕ, ◌+◌, ◌-◌, ◌<◌, Bool, true, false, true≢false, ◌&&◌, ◌||◌, nat_eq, List, [], ◌∷◌, ◌++◌, length, take, drop, get_or, refl, sym, ap, subst, ◌∙◌, ◌⊎◌, inl, inr, arith}
use Rattle.std.proofs.lemmas.Bool.{eqb-true, eq-eqb}
use Rattle.std.proofs.lemmas.List.{take_all, take_more, take-append-drop, length-drop, append_assoc}
use Rattle.std.proofs.Math.Bool.{and_comm}
use Rattle.std.proofs.lemmas.List.Folds.{list_all-append}
use Rattle.mg_word.proofs.Members.{both_true, and_true, never_true, or_true, either_true}
use Rattle.minimal_test.specs.declared.rule.Rule.{Rule}
use Rattle.minimal_test.specs.declared.side.Side.{Side}
use Rattle.minimal_test.specs.declared.side.Side.TheVariants.{Open, In, Out}
use Rattle.minimal_test.specs.declared.rest.Rest.{Rest}
use Rattle.minimal_test.specs.declared.rest.Rest.TheVariants.{Done, Only, Free}
use Rattle.minimal_test.specs.Choices.{side_at, is_on}
use Rattle.minimal_test.specs.Rests.{are_on, are_but, IsRest, waiting, next_rest}
use Rattle.minimal_test.specs.Findings.{forces, IsFinding, finding_of}
use Rattle.minimal_test.specs.Uses.{is_among}

true_and : (a b : Bool) → b ≡ true → (a && (b && true)) ≡ a
true_and true b e = ap (λ t. t && true) e
true_and false b e = refl

false_right : (a b : Bool) → b ≡ false → (a && (b && true)) ≡ false
false_right true b e = ap (λ t. t && true) e
false_right false b e = refl

false_left : (a b : Bool) → a ≡ false → (a && b) ≡ false
false_left true b e = absurd (true≢false e)
false_left false b e = refl

false_second : (a b : Bool) → b ≡ false → (a && b) ≡ false
false_second true b e = e
false_second false b e = refl

module _ (sides : List Side) (is_in : Bool) where
  -- the tests of a list with a place more
  on_more : (places : List ℕ) (place : ℕ) → are_on sides is_in (places ++ place ∷ []) ≡ (are_on sides is_in places && (is_on is_in (side_at sides place) && true))
  on_more places place = list_all-append (λ one. is_on is_in (side_at sides one)) places (place ∷ [])

  but_more : (other : ℕ) (places : List ℕ) (place : ℕ) → are_but sides is_in other (places ++ place ∷ []) ≡ (are_but sides is_in other places && ((is_on is_in (side_at sides place) || nat_eq place other) && true))
  but_more other places place = list_all-append (λ one. is_on is_in (side_at sides one) || nat_eq one other) places (place ∷ [])

  -- where all are on the side, all but any are
  but_from_on : (other : ℕ) (places : List ℕ) → are_on sides is_in places ≡ true → are_but sides is_in other places ≡ true
  but_from_on other [] e = refl
  but_from_on other (place ∷ places) e =
      let parts = both_true (is_on is_in (side_at sides place)) (are_on sides is_in places) e in
      and_true (is_on is_in (side_at sides place) || nat_eq place other) (are_but sides is_in other places)
      (or_true (is_on is_in (side_at sides place)) (nat_eq place other) (inl parts.0))
      (but_from_on other places parts.1)

  -- where all but the one and all but another are, all are
  on_from_two : (a b : ℕ) → a ≢ b → (places : List ℕ) → are_but sides is_in a places ≡ true → are_but sides is_in b places ≡ true → are_on sides is_in places ≡ true
  on_from_two a b apart [] e f = refl
  on_from_two a b apart (place ∷ places) e f =
      let one = both_true (is_on is_in (side_at sides place) || nat_eq place a) (are_but sides is_in a places) e in
      let two = both_true (is_on is_in (side_at sides place) || nat_eq place b) (are_but sides is_in b places) f in
      and_true (is_on is_in (side_at sides place)) (are_on sides is_in places)
      (by (either_true (is_on is_in (side_at sides place)) (nat_eq place a) one.0) (either_true (is_on is_in (side_at sides place)) (nat_eq place b) two.0))
      (on_from_two a b apart places one.1 two.1)
    where
      by : (is_on is_in (side_at sides place) ≡ true) ⊎ (nat_eq place a ≡ true) → (is_on is_in (side_at sides place) ≡ true) ⊎ (nat_eq place b ≡ true) → is_on is_in (side_at sides place) ≡ true
      by (inl on) q = on
      by (inr at) (inl on) = on
      by (inr at) (inr at') = absurd (apart (sym (eqb-true place a at) ∙ eqb-true place b at'))

  -- a place more that is on the side
  stay : (places : List ℕ) (place : ℕ) → is_on is_in (side_at sides place) ≡ true → (rest : Rest) → IsRest sides is_in places rest → IsRest sides is_in (places ++ place ∷ []) rest
  stay places place on Done is = on_more places place ∙ (true_and (are_on sides is_in places) (is_on is_in (side_at sides place)) on ∙ is)
  stay places place on (Only other) (open_place, some, but) = (
    open_place,
    on_more places place ∙ (true_and (are_on sides is_in places) (is_on is_in (side_at sides place)) on ∙ some),
    but_more other places place ∙ (true_and (are_but sides is_in other places) (is_on is_in (side_at sides place) || nat_eq place other) (or_true (is_on is_in (side_at sides place)) (nat_eq place other) (inl on)) ∙ but),
  )
  stay places place on Free (some, none) = (
    on_more places place ∙ (true_and (are_on sides is_in places) (is_on is_in (side_at sides place)) on ∙ some),
    (λ other open_place. but_more other places place ∙ false_left (are_but sides is_in other places) ((is_on is_in (side_at sides place) || nat_eq place other) && true) (none other open_place)),
  )

  -- a place more that is on the other side
  leave : (places : List ℕ) (place : ℕ) → is_on is_in (side_at sides place) ≡ false → (side_at sides place ≡ Open → ⊥) → IsRest sides is_in (places ++ place ∷ []) Free
  leave places place off closed = (
    on_more places place ∙ false_right (are_on sides is_in places) (is_on is_in (side_at sides place)) off,
    (λ other open_place. but_more other places place ∙ false_right (are_but sides is_in other places) (is_on is_in (side_at sides place) || nat_eq place other)
        (never_true (is_on is_in (side_at sides place) || nat_eq place other) (λ e. elim (either_true (is_on is_in (side_at sides place)) (nat_eq place other) e) [
          | inl on ↦ true≢false (sym on ∙ off)
          | inr at ↦ closed (ap (side_at sides) (eqb-true place other at) ∙ open_place)
        ]))),
  )

  is_off : (side : Side) → side ≡ Open → is_on is_in side ≡ false
  is_off side e = ap (is_on is_in) e ∙ by is_in
    where
      by : (b : Bool) → is_on b Open ≡ false
      by true = refl
      by false = refl

  -- a place more that is open
  wait : (places : List ℕ) (place : ℕ) → side_at sides place ≡ Open → (rest : Rest) → IsRest sides is_in places rest → IsRest sides is_in (places ++ place ∷ []) (waiting place rest)
  wait places place open_place Done is = (
    open_place,
    on_more places place ∙ false_right (are_on sides is_in places) (is_on is_in (side_at sides place)) (is_off (side_at sides place) open_place),
    but_more place places place ∙ (true_and (are_but sides is_in place places) (is_on is_in (side_at sides place) || nat_eq place place) (or_true (is_on is_in (side_at sides place)) (nat_eq place place) (inr (eq-eqb place place refl))) ∙ but_from_on place places is),
  )
  wait places place open_place (Only other) (open_other, some, but) = by (nat_eq other place) refl
    where
      off : are_on sides is_in (places ++ place ∷ []) ≡ false
      off = on_more places place ∙ false_right (are_on sides is_in places) (is_on is_in (side_at sides place)) (is_off (side_at sides place) open_place)

      by : (same : Bool) → nat_eq other place ≡ same → IsRest sides is_in (places ++ place ∷ []) (waiting place (Only other))
      by true is = rw is (
        open_other,
        off,
        but_more other places place ∙ (true_and (are_but sides is_in other places) (is_on is_in (side_at sides place) || nat_eq place other) (or_true (is_on is_in (side_at sides place)) (nat_eq place other) (inr (eq-eqb place other (sym (eqb-true other place is))))) ∙ but),
      )
      by false is = rw is (
        off,
        (λ one open_one. but_more one places place ∙ never_true (are_but sides is_in one places && ((is_on is_in (side_at sides place) || nat_eq place one) && true)) (λ e.
            let parts = both_true (are_but sides is_in one places) ((is_on is_in (side_at sides place) || nat_eq place one) && true) e in
            let last = both_true (is_on is_in (side_at sides place) || nat_eq place one) true parts.1 in
            elim (either_true (is_on is_in (side_at sides place)) (nat_eq place one) last.0) [
              | inl on ↦ true≢false (sym on ∙ is_off (side_at sides place) open_place)
              | inr at ↦
                  let same : place ≡ one = eqb-true place one at in
                  let apart : one ≢ other = λ e. true≢false (sym (eq-eqb other place (sym (same ∙ e))) ∙ is) in
                  true≢false (sym (on_from_two one other apart places parts.0 but) ∙ some)
            ])),
      )
  wait places place open_place Free (some, none) = (
    on_more places place ∙ false_right (are_on sides is_in places) (is_on is_in (side_at sides place)) (is_off (side_at sides place) open_place),
    (λ other open_other. but_more other places place ∙ false_left (are_but sides is_in other places) ((is_on is_in (side_at sides place) || nat_eq place other) && true) (none other open_other)),
  )

-- what is left with a place more
pub rest_next : (sides : List Side) (is_in : Bool) (places : List ℕ) (place : ℕ) (side : Side) → side_at sides place ≡ side → (rest : Rest) → IsRest sides is_in places rest → IsRest sides is_in (places ++ place ∷ []) (next_rest is_in place side rest)
rest_next sides is_in places place Open e rest is = wait sides is_in places place e rest is
rest_next sides true places place In e rest is = stay sides true places place (ap (is_on true) e) rest is
rest_next sides true places place Out e rest is = leave sides true places place (ap (is_on true) e) (λ f. let bad : ⊥ = cc in bad)
rest_next sides false places place In e rest is = leave sides false places place (ap (is_on false) e) (λ f. let bad : ⊥ = cc in bad)
rest_next sides false places place Out e rest is = stay sides false places place (ap (is_on false) e) rest is

pub rest_more : (sides : List Side) (is_in : Bool) (before places : List ℕ) (i : ℕ) (rest next : Rest) (side : Side) → i < length places → side ≡ side_at sides (get_or places i 0) → next ≡ next_rest is_in (get_or places i 0) side rest
    → IsRest sides is_in (before ++ take i places) rest → IsRest sides is_in (before ++ take (i + 1) places) next
rest_more sides is_in before places i rest next side within at made is =
    rw (take_more places i 0 within, sym (append_assoc before (take i places) (get_or places i 0 ∷ [])), made) (rest_next sides is_in (before ++ take i places) (get_or places i 0) side (sym at) rest is)

-- what is neither of some places is neither of those and more
free_more : (sides : List Side) (is_in : Bool) (places more : List ℕ) → IsRest sides is_in places Free → IsRest sides is_in (places ++ more) Free
free_more sides is_in places more (some, none) = (
  list_all-append (λ one. is_on is_in (side_at sides one)) places more ∙ false_left (are_on sides is_in places) (are_on sides is_in more) some,
  (λ other open_place. list_all-append (λ one. is_on is_in (side_at sides one) || nat_eq one other) places more ∙ false_left (are_but sides is_in other places) (are_but sides is_in other more) (none other open_place)),
)

-- what is neither of the first places is neither of all
pub free_ends : (sides : List Side) (is_in : Bool) (before places : List ℕ) (i : ℕ) (rest : Rest) → rest ≡ Free → IsRest sides is_in (before ++ take i places) rest → IsRest sides is_in (before ++ places) Free
free_ends sides is_in before places i rest free is =
    subst (λ (some : List ℕ). IsRest sides is_in some Free) (append_assoc before (take i places) (drop i places) ∙ ap (λ (some : List ℕ). before ++ some) (take-append-drop i places))
    (free_more sides is_in (before ++ take i places) (drop i places) (subst (IsRest sides is_in (before ++ take i places)) free is))

-- the tests of a list do not ask where it begins
on_round : (sides : List Side) (is_in : Bool) (places : List ℕ) (m : ℕ) → are_on sides is_in (drop m places ++ take m places) ≡ are_on sides is_in places
on_round sides is_in places m =
    list_all-append test (drop m places) (take m places) ∙ (and_comm (are_on sides is_in (drop m places)) (are_on sides is_in (take m places))
    ∙ (sym (list_all-append test (take m places) (drop m places)) ∙ ap (are_on sides is_in) (take-append-drop m places)))
  where
    test : ℕ → Bool
    test one = is_on is_in (side_at sides one)

but_round : (sides : List Side) (is_in : Bool) (other : ℕ) (places : List ℕ) (m : ℕ) → are_but sides is_in other (drop m places ++ take m places) ≡ are_but sides is_in other places
but_round sides is_in other places m =
    list_all-append test (drop m places) (take m places) ∙ (and_comm (are_but sides is_in other (drop m places)) (are_but sides is_in other (take m places))
    ∙ (sym (list_all-append test (take m places) (drop m places)) ∙ ap (are_but sides is_in other) (take-append-drop m places)))
  where
    test : ℕ → Bool
    test one = is_on is_in (side_at sides one) || nat_eq one other

-- the places from one on
behind : (places : List ℕ) (m : ℕ) → take (length places - m) (drop m places) ≡ drop m places
behind places m = take_all (length places - m) (drop m places) (omega (arith, length-drop m places))

-- what is left of the places from one on, and then of those before it, is left of all
pub rest_round : (sides : List Side) (is_in : Bool) (places : List ℕ) (m : ℕ) (rest : Rest) → IsRest sides is_in (take (length places - m) (drop m places) ++ take m places) rest → IsRest sides is_in places rest
rest_round sides is_in places m rest is = by rest (subst (λ (some : List ℕ). IsRest sides is_in (some ++ take m places) rest) (behind places m) is)
  where
    by : (rest : Rest) → IsRest sides is_in (drop m places ++ take m places) rest → IsRest sides is_in places rest
    by Done is = sym (on_round sides is_in places m) ∙ is
    by (Only other) (open_place, some, but) = (open_place, sym (on_round sides is_in places m) ∙ some, sym (but_round sides is_in other places m) ∙ but)
    by Free (some, none) = (sym (on_round sides is_in places m) ∙ some, (λ other open_place. sym (but_round sides is_in other places m) ∙ none other open_place))

-- what is neither of the places from one on is neither of all
pub free_round : (sides : List Side) (is_in : Bool) (places : List ℕ) (m : ℕ) (rest : Rest) → rest ≡ Free → IsRest sides is_in (take (length places - m) (drop m places)) rest → IsRest sides is_in places Free
free_round sides is_in places m rest free is =
    let slice : List ℕ = take (length places - m) (drop m places) in
    rest_round sides is_in places m Free (free_more sides is_in slice (take m places) (subst (IsRest sides is_in slice) free is))

-- where all but the one are on the side, and not all, it is one of them
among_but : (sides : List Side) (is_in : Bool) (other : ℕ) (places : List ℕ) → are_on sides is_in places ≡ false → are_but sides is_in other places ≡ true → is_among other places ≡ true
among_but sides is_in other [] some but = absurd (true≢false some)
among_but sides is_in other (place ∷ places) some but =
    let parts = both_true (is_on is_in (side_at sides place) || nat_eq place other) (are_but sides is_in other places) but in
    or_true (nat_eq other place) (is_among other places) (elim (either_true (is_on is_in (side_at sides place)) (nat_eq place other) parts.0) [
      | inl on ↦ inr (among_but sides is_in other places (never_true (are_on sides is_in places) (λ all. true≢false (sym (and_true (is_on is_in (side_at sides place)) (are_on sides is_in places) on all) ∙ some))) parts.1)
      | inr at ↦ inl (eq-eqb other place (sym (eqb-true place other at)))
    ])

-- what a rule comes to, by what is left of its premises and conclusions
pub found : (sides : List Side) (rule : Rule) (premises conclusions : Rest) → IsRest sides true rule.premises premises → IsRest sides false rule.conclusions conclusions → IsFinding sides rule (finding_of premises conclusions)
found sides rule Done Done p q = and_true (are_on sides true rule.premises) (are_on sides false rule.conclusions) p q
found sides rule Done (Only place) p (open_place, some, but) = (
  open_place,
  and_true (are_on sides true rule.premises) (are_but sides false place rule.conclusions) p but,
  or_true (is_among place rule.premises) (is_among place rule.conclusions) (inr (among_but sides false place rule.conclusions some but)),
)
found sides rule Done Free p (some, none) = record {
  kept = false_second (are_on sides true rule.premises) (are_on sides false rule.conclusions) some;
  still = by;
}
  where
    by : (place : ℕ) (is_in : Bool) → side_at sides place ≡ Open → forces sides rule place is_in ≡ false
    by place true open_place = false_second (are_on sides true rule.premises) (are_but sides false place rule.conclusions) (none place open_place)
    by place false open_place = false_second (are_but sides true place rule.premises) (are_on sides false rule.conclusions) some
found sides rule (Only place) Done (open_place, some, but) q = (
  open_place,
  and_true (are_but sides true place rule.premises) (are_on sides false rule.conclusions) but q,
  or_true (is_among place rule.premises) (is_among place rule.conclusions) (inl (among_but sides true place rule.premises some but)),
)
found sides rule (Only place) (Only other) (open_place, some, but) (open_other, some', but') = record {
  kept = false_left (are_on sides true rule.premises) (are_on sides false rule.conclusions) some;
  still = by;
}
  where
    by : (place : ℕ) (is_in : Bool) → side_at sides place ≡ Open → forces sides rule place is_in ≡ false
    by place true open_place = false_left (are_on sides true rule.premises) (are_but sides false place rule.conclusions) some
    by place false open_place = false_second (are_but sides true place rule.premises) (are_on sides false rule.conclusions) some'
found sides rule (Only place) Free (open_place, some, but) (some', none) = record {
  kept = false_left (are_on sides true rule.premises) (are_on sides false rule.conclusions) some;
  still = by;
}
  where
    by : (place : ℕ) (is_in : Bool) → side_at sides place ≡ Open → forces sides rule place is_in ≡ false
    by place true open_place = false_left (are_on sides true rule.premises) (are_but sides false place rule.conclusions) some
    by place false open_place = false_second (are_but sides true place rule.premises) (are_on sides false rule.conclusions) some'
found sides rule Free conclusions (some, none) q = record {
  kept = false_left (are_on sides true rule.premises) (are_on sides false rule.conclusions) some;
  still = by;
}
  where
    by : (place : ℕ) (is_in : Bool) → side_at sides place ≡ Open → forces sides rule place is_in ≡ false
    by place true open_place = false_left (are_on sides true rule.premises) (are_but sides false place rule.conclusions) some
    by place false open_place = false_left (are_but sides true place rule.premises) (are_on sides false rule.conclusions) (none place open_place)
