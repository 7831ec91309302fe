-- Whether a rising list of literals is a part of another, by going over both at once.
use Rattle.std.proofs.Common.{◌≡◌, ℕ, ◌+◌, ◌<◌, zero, suc, true, false, ◌||◌, ◌&&◌, List, [], ◌∷◌, length, get_or, drop, drop-cons, add-one, ◌≤◌, nat_eq, inl, inr, refl, sym, ap, ◌∙◌, arith}
use Rattle.std.specs.declared.cmp.Ordering.TheVariants.{Less, Equal, Greater}
use Rattle.std.specs.Ordering.{is_lt, is_eq, ordering_reverse}
use Rattle.std.proofs.lemmas.Bool.{and_parts, or_right, cases_lt}
use Rattle.std.proofs.lemmas.Bool.Decides.{nat_tests}
use Rattle.std.proofs.lemmas.List.{drop_all}
use Rattle.std.specs.declared.cmp.Ordering.{Ordering}
use Rattle.mg_word.specs.Orders.{lit_cmp}
use Rattle.mg_word.specs.OrderLaws.{lit_total, lit_same}
use Rattle.mg_word.specs.Sets.{same_lit, holds, is_part, is_below_first, is_rising}
use Rattle.mg_word.specs.declared.lit.Lit.{Lit}
use Rattle.mg_word.proofs.RisingLists.{least, missing_low}
use Rattle.mg_word.proofs.Members.{holds_first}

-- a literal before each of a list is not needed for it
part_skip : (low : Lit) (part whole : List Lit) → ((lit : Lit) → holds part lit ≡ true → lit_cmp low lit ≡ Less) → is_part part (low ∷ whole) ≡ is_part part whole
part_skip low [] whole above = refl
part_skip low (lit ∷ part) whole above =
    let tie : same_lit low lit ≡ false = ap is_eq (above lit (holds_first lit part)) in
    let further = part_skip low part whole (λ held there. above held (or_right (same_lit lit held) (holds part held) there)) in
    ap (λ b. (b || holds whole lit) && is_part part (low ∷ whole)) tie ∙ ap (λ b. holds whole lit && b) further

part_less : (lit held : Lit) (part whole : List Lit) → is_rising (held ∷ whole) ≡ true → lit_cmp lit held ≡ Less → is_part (lit ∷ part) (held ∷ whole) ≡ false
part_less lit held part whole rising less = ap (λ b. b && is_part part (held ∷ whole)) (missing_low lit (held ∷ whole) (ap is_lt less) rising)

part_equal : (lit : Lit) (part whole : List Lit) → is_rising (lit ∷ part) ≡ true → is_part (lit ∷ part) (lit ∷ whole) ≡ is_part part whole
part_equal lit part whole rising =
    let parts = and_parts (is_below_first lit part) (is_rising part) rising in
    ap (λ b. b && is_part part (lit ∷ whole)) (holds_first lit whole) ∙ part_skip lit part whole (least lit part parts.0 parts.1)

part_greater : (lit held : Lit) (part whole : List Lit) → is_rising (lit ∷ part) ≡ true → lit_cmp lit held ≡ Greater → is_part (lit ∷ part) (held ∷ whole) ≡ is_part (lit ∷ part) whole
part_greater lit held part whole rising greater =
    let less : lit_cmp held lit ≡ Less = lit_total.antisymm held lit ∙ ap ordering_reverse greater in
    part_skip held (lit ∷ part) whole (least held (lit ∷ part) (ap is_lt less) rising)

pub rising_drop : (n : ℕ) (lits : List Lit) → is_rising lits ≡ true → is_rising (drop n lits) ≡ true
rising_drop zero lits rising = rising
rising_drop (suc n) [] rising = refl
rising_drop (suc n) (lit ∷ lits) rising = rising_drop n lits (and_parts (is_below_first lit lits) (is_rising lits) rising).1

at_drop : (lits : List Lit) (i : ℕ) (lit : Lit) → i < length lits → lit ≡ get_or lits i lit → drop i lits ≡ lit ∷ drop (i + 1) lits
at_drop lits i lit inside is = rw (add-one, drop-cons lits i lit inside, ← is) refl

-- the steps, where the two lists have come to these places
module _ (part whole : List Lit) (i j : ℕ) (lit held : Lit) (inside : i < length part) (within : j < length whole) (here : lit ≡ get_or part i lit) (there : held ≡ get_or whole j held) (up : is_rising part ≡ true) (above : is_rising whole ≡ true) where
  pub merge_less : lit_cmp lit held ≡ Less → is_part (drop i part) (drop j whole) ≡ false
  merge_less less =
      let first = at_drop part i lit inside here in
      let second = at_drop whole j held within there in
      ap (λ lits. is_part lits (drop j whole)) first ∙ ap (λ lits. is_part (lit ∷ drop (i + 1) part) lits) second
      ∙ part_less lit held (drop (i + 1) part) (drop (j + 1) whole) (rw second at (rising_drop j whole above)) less

  pub merge_equal : lit_cmp lit held ≡ Equal → is_part (drop i part) (drop j whole) ≡ is_part (drop (i + 1) part) (drop (j + 1) whole)
  merge_equal tie =
      let first = at_drop part i lit inside here in
      let same = lit_same lit held tie in
      let second : drop j whole ≡ lit ∷ drop (j + 1) whole = at_drop whole j held within there ∙ ap (λ l. l ∷ drop (j + 1) whole) (sym same) in
      ap (λ lits. is_part lits (drop j whole)) first ∙ ap (λ lits. is_part (lit ∷ drop (i + 1) part) lits) second ∙ part_equal lit (drop (i + 1) part) (drop (j + 1) whole) (rw first at (rising_drop i part up))

  pub merge_greater : lit_cmp lit held ≡ Greater → is_part (drop i part) (drop j whole) ≡ is_part (drop i part) (drop (j + 1) whole)
  merge_greater greater =
      let first = at_drop part i lit inside here in
      let second = at_drop whole j held within there in
      ap (λ lits. is_part lits (drop j whole)) first ∙ ap (λ lits. is_part (lit ∷ drop (i + 1) part) lits) second
      ∙ part_greater lit held (drop (i + 1) part) (drop (j + 1) whole) (rw first at (rising_drop i part up)) greater ∙ ap (λ lits. is_part lits (drop (j + 1) whole)) (sym first)

-- nothing is a part of nothing but itself
pub part_of_none : (part : List Lit) (i : ℕ) → i < length part → is_part (drop i part) [] ≡ false
part_of_none [] i inside = absurd (omega arith)
part_of_none (lit ∷ part) zero inside = refl
part_of_none (lit ∷ part) (suc i) inside = part_of_none part i (omega arith)

-- at the end of the second list, the first is done or something is missing
pub merge_done : (part whole : List Lit) (i j : ℕ) → i ≤ length part → length whole ≤ j → nat_eq i (length part) ≡ is_part (drop i part) (drop j whole)
merge_done part whole i j inside past = elim (cases_lt i (length part)) [
  | inl before ↦ rw (drop_all j whole past) (nat_eq_false i (length part) (omega arith) ∙ sym (part_of_none part i before))
  | inr after ↦ rw (drop_all i part after) (nat_eq_true i (length part) (omega arith))
]
  where
    nat_eq_true : (a b : ℕ) → a ≡ b → nat_eq a b ≡ true
    nat_eq_true a b same = grind (arith, nat_tests)

    nat_eq_false : (a b : ℕ) → a < b → nat_eq a b ≡ false
    nat_eq_false a b less = grind (arith, nat_tests)

pub is_greater : (answer : Ordering) → is_lt answer ≡ false → is_eq answer ≡ false → answer ≡ Greater
is_greater Less first second = cc
is_greater Equal first second = cc
is_greater Greater first second = refl
