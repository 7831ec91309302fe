-- Digits of numbers: how a number grows by one digit more, and that a plain text is the spelling of its number.
use Rattle.std.proofs.Common.{◌≡◌, ℕ, zero, suc, ◌+◌, ◌-◌, ◌*◌, ◌/◌, ◌%◌, ◌^◌, ◌≤◌, ◌<◌, true, false, true≢false, nat_le, Option, Some, None, MatchOption, List, [], ◌∷◌, ◌++◌, map, length, take, drop, get_or, refl, sym, ap, subst, ◌∙◌, inl, inr, length-append, take-append-drop, arith}
use Rattle.std.specs.List.{list_all}
use Rattle.std.specs.Fmt.{decimal}
use Rattle.std.specs.Char.{digit_value}
use Rattle.std.specs.Str.Parse.{digits_value, digits_value_after, AllDigits}
use Rattle.std.specs.Int.Digits.{number_from_digits, number_from_digits_after}
use Rattle.std.proofs.Math.Seq.{drop-cons}
use Rattle.std.proofs.lemmas.Bool.{and_parts, and_from, cases_lt}
use Rattle.std.proofs.lemmas.Bool.Decides.{nat_tests}
use Rattle.std.proofs.lemmas.Fmt.{decimal_is_IsNumeral, decimal_digit, decimal_step, decimal_by_steps}
use Rattle.std.proofs.lemmas.Int.Digits.{digits_value_is, number_after_append, number_after_ge, digits_value_more}
use Rattle.std.proofs.lemmas.List.{map-append, get_or_append_left, take_more, take_all}
use Rattle.std.proofs.lemmas.Str.Parse.{digit_from_value}
use Rattle.ascii_text.specs.Bytes.{is_digit}
use Rattle.ascii_text.specs.Numbers.{is_plain_number, IsValue}

-- more digits do not make a number smaller
digits_grow : (n : ℕ) (text : List ℕ) → n ≤ digits_value_after 10 n text
digits_grow n [] = omega arith
digits_grow n (c ∷ text) = let more = digits_grow (n * 10 + digit_value c) text in omega (arith, more)

pub past : (text : List ℕ) (i n most : ℕ) → i < length text → digits_value_after 10 n (drop i text) ≡ digits_value 10 text → most < n * 10 + digit_value (get_or text i 0) → most < digits_value 10 text
past text i n most h same more =
    let grown = digits_grow (n * 10 + digit_value (get_or text i 0)) (drop (suc i) text) in
    let all : digits_value_after 10 (n * 10 + digit_value (get_or text i 0)) (drop (suc i) text) ≡ digits_value 10 text =
    sym (ap (digits_value_after 10 n) (drop-cons text i 0 h)) ∙ same in
    omega (arith, grown, all, more)

value_rises : (xs ys : List ℕ) → digits_value 10 xs ≤ digits_value 10 (xs ++ ys)
value_rises xs ys =
    let whole = digits_value_is 10 (xs ++ ys) ∙ (ap (number_from_digits 10) (map-append digit_value xs ys) ∙ number_after_append 10 0 (map digit_value xs) (map digit_value ys)) in
    omega (arith, whole, digits_value_is 10 xs, number_after_ge 10 (number_from_digits_after 10 0 (map digit_value xs)) (map digit_value ys) (omega arith))

-- the digits of a number
pub decimal_value : (n : ℕ) → n < 2 ^ 32 → digits_value 10 (decimal n) ≡ n
decimal_value n small = (decimal_is_IsNumeral n (omega arith)).1

pub decimal_same : (m n : ℕ) → m < 2 ^ 32 → n < 2 ^ 32 → decimal m ≡ decimal n → m ≡ n
decimal_same m n small fits same = sym (decimal_value m small) ∙ (ap (digits_value 10) same ∙ decimal_value n fits)

digit_in : (c : ℕ) → (48 ≤ c) × (c ≤ 57) → is_digit c ≡ true
digit_in c (low, high) = grind (arith, nat_tests)

all_digits : (ds : List ℕ) → AllDigits 10 ds → list_all is_digit ds ≡ true
all_digits [] are = refl
all_digits (c ∷ ds) are = and_from (is_digit c) (list_all is_digit ds) (digit_in c (digit_from_value c are.0)) (all_digits ds are.1)

pub decimal_digits : (n : ℕ) → n < 2 ^ 32 → list_all is_digit (decimal n) ≡ true
decimal_digits n small = all_digits (decimal n) (decimal_is_IsNumeral n (omega arith)).0.1

-- a number above 0 begins with no zero
leads : (n : ℕ) → n < 2 ^ 64 → 1 ≤ n → (48 < get_or (decimal n) 0 0) × (1 ≤ length (decimal n))
leads = decimal_by_steps (λ n ds. 1 ≤ n → (48 < get_or ds 0 0) × (1 ≤ length ds)) one more
  where
    one : (n : ℕ) → n < 10 → 1 ≤ n → (48 < 48 + n) × (1 ≤ 1)
    one n small some = (omega arith, omega arith)

    more : (n : ℕ) (ds : List ℕ) → 10 ≤ n → (1 ≤ n / 10 → (48 < get_or ds 0 0) × (1 ≤ length ds)) → 1 ≤ n → (48 < get_or (ds ++ ((48 + n % 10) ∷ [])) 0 0) × (1 ≤ length (ds ++ ((48 + n % 10) ∷ [])))
    more n ds large go some =
        let before = go (omega arith) in
        let first = get_or_append_left ds ((48 + n % 10) ∷ []) 0 0 (omega (arith, before.1)) in
        (omega (arith, first, before.0), omega (arith, before.1, length-append ds ((48 + n % 10) ∷ [])))

-- digits are a plain number where they are one alone or the first is no zero
plain_from : (ds : List ℕ) → list_all is_digit ds ≡ true → 1 ≤ length ds → (1 < length ds → 48 < get_or ds 0 0) → is_plain_number ds ≡ true
plain_from [] all some leading = absurd (omega arith)
plain_from (c ∷ []) all some leading = (and_parts (is_digit c) true all).0
plain_from (c ∷ d ∷ ds) all some leading = and_from (nat_le 49 c) (list_all is_digit (c ∷ d ∷ ds)) (let above = leading (omega arith) in grind (arith, nat_tests, above)) all

-- the spelling of a number is plain
plain_decimal : (n : ℕ) → n < 2 ^ 32 → is_plain_number (decimal n) ≡ true
plain_decimal n small =
    plain_from (decimal n) (decimal_digits n small) (omega (arith, (decimal_is_IsNumeral n (omega arith)).0.0))
    (λ long. elim (cases_lt n 10) [
      | inl low ↦ absurd (omega (arith, ap length (decimal_digit n low), long))
      | inr high ↦ (leads n (omega arith) (omega (arith, high))).0
    ])

digit_is : (c : ℕ) → is_digit c ≡ true → digit_value c ≡ c - 48
digit_is c digit = grind (arith, nat_tests)

digit_range : (c : ℕ) → is_digit c ≡ true → (48 ≤ c) × (c ≤ 57)
digit_range c digit = (grind (arith, nat_tests), grind (arith, nat_tests))

digit_at : (digits : List ℕ) (i : ℕ) → i < length digits → list_all is_digit digits ≡ true → is_digit (get_or digits i 0) ≡ true
digit_at [] i within all = absurd (omega arith)
digit_at (c ∷ digits) zero within all = (and_parts (is_digit c) (list_all is_digit digits) all).0
digit_at (c ∷ digits) (suc i) within all = digit_at digits i (omega arith) (and_parts (is_digit c) (list_all is_digit digits) all).1

plain_digits : (text : List ℕ) → is_plain_number text ≡ true → list_all is_digit text ≡ true
plain_digits [] plain = refl
plain_digits (c ∷ []) plain = and_from (is_digit c) true plain refl
plain_digits (c ∷ d ∷ text) plain = (and_parts (nat_le 49 c) (list_all is_digit (c ∷ d ∷ text)) plain).1

plain_leads : (text : List ℕ) → is_plain_number text ≡ true → 1 < length text → 48 < get_or text 0 0
plain_leads [] plain long = absurd (omega arith)
plain_leads (c ∷ []) plain long = absurd (omega arith)
plain_leads (c ∷ d ∷ text) plain long = let above = (and_parts (nat_le 49 c) (list_all is_digit (c ∷ d ∷ text)) plain).0 in grind (arith, nat_tests, above)

-- the spelling of a number by that of its first digits
one_more : (text : List ℕ) (i value more digit : ℕ) → i < length text → is_digit digit ≡ true → 1 ≤ value → more ≡ value * 10 + (digit - 48) → more < 2 ^ 32 → decimal value ≡ take i text → digit ≡ get_or text i 0
    → decimal more ≡ take (i + 1) text
one_more text i value more digit within is above made small spelled at =
    let range = digit_range digit is in
    let front : more / 10 ≡ value = omega (arith, made, range.1) in
    let last : 48 + more % 10 ≡ digit = omega (arith, made, range.0, range.1) in
    decimal_step more (omega (arith, made, above)) (omega (arith, small))
    ∙ (ap (λ n. decimal n ++ (48 + more % 10) ∷ []) front ∙ (ap (λ c. decimal value ++ c ∷ []) last ∙ (ap (λ l. l ++ digit ∷ []) spelled ∙ (ap (λ c. take i text ++ c ∷ []) at ∙ sym (take_more text i 0 within)))))

-- no front of a text has a larger number
value_front : (text : List ℕ) (i : ℕ) → digits_value 10 (take i text) ≤ digits_value 10 text
value_front text i = omega (arith, value_rises (take i text) (drop i text), ap (digits_value 10) (take-append-drop i text))

-- the first digits of a plain text are the spelling of their number, which is above 0 where there are more
front_spelled : (text : List ℕ) → is_plain_number text ≡ true → digits_value 10 text < 2 ^ 32 → (i : ℕ) → i < length text
    → (decimal (digits_value 10 (take (i + 1) text)) ≡ take (i + 1) text) × (1 < length text → 1 ≤ digits_value 10 (take (i + 1) text))
front_spelled text plain small zero within =
    let digit = digit_at text 0 within (plain_digits text plain) in
    let range = digit_range (get_or text 0 0) digit in
    let value : digits_value 10 (take 1 text) ≡ get_or text 0 0 - 48 = omega (arith, digits_value_more 10 text 0 within, digit_is (get_or text 0 0) digit) in
    let back : 48 + (get_or text 0 0 - 48) ≡ get_or text 0 0 = omega (arith, range.0) in (
      ap decimal value ∙ (decimal_digit (get_or text 0 0 - 48) (omega (arith, range.1)) ∙ (ap (λ c. c ∷ []) back ∙ sym (take_more text 0 0 within))),
      λ long. omega (arith, value, plain_leads text plain long),
    )
front_spelled text plain small (suc i) within =
    let before = front_spelled text plain small i (omega arith) in
    let digit = digit_at text (suc i) within (plain_digits text plain) in
    let range = digit_range (get_or text (suc i) 0) digit in
    let value = digits_value_more 10 text (suc i) within in
    let count : suc i + 1 ≡ suc (i + 1) = omega arith in
    let same : suc i ≡ i + 1 = omega arith in
    let above : 1 ≤ digits_value 10 (take (suc i) text) = subst (λ n. 1 ≤ digits_value 10 (take n text)) (sym same) (before.1 (omega arith)) in
    let spelled : decimal (digits_value 10 (take (suc i) text)) ≡ take (suc i) text = subst (λ n. decimal (digits_value 10 (take n text)) ≡ take n text) (sym same) before.0 in (
      one_more text (suc i) (digits_value 10 (take (suc i) text)) (digits_value 10 (take (suc i + 1) text)) (get_or text (suc i) 0) within digit above
          (omega (arith, value, digit_is (get_or text (suc i) 0) digit)) (omega (arith, value_front text (suc i + 1), small)) spelled refl,
      λ long. omega (arith, value, above),
    )

-- the number of a plain text has it as its spelling
pub plain_spelled : (text : List ℕ) → is_plain_number text ≡ true → digits_value 10 text < 2 ^ 32 → decimal (digits_value 10 text) ≡ text
plain_spelled [] plain small = absurd (true≢false (sym plain))
plain_spelled (c ∷ text) plain small =
    let count : length text + 1 ≡ length (c ∷ text) = omega arith in
    let whole : take (length text + 1) (c ∷ text) ≡ c ∷ text = take_all (length text + 1) (c ∷ text) (omega arith) in
    subst (λ l. decimal (digits_value 10 l) ≡ l) whole (front_spelled (c ∷ text) plain small (length text) (omega arith)).0

-- a text that is not plain is the spelling of no number
pub not_plain : (text : List ℕ) → is_plain_number text ≡ false → (n : ℕ) → IsValue text n → ⊥
not_plain text rough n is = true≢false (sym (plain_decimal n is.small) ∙ (ap is_plain_number is.text ∙ rough))

-- the number of a plain text is below 2 ^ 32, or the text is the spelling of no number below
pub plain_answer : (text : List ℕ) → is_plain_number text ≡ true → (found : Option ℕ) → MatchOption found (2 ^ 32 - 1 < digits_value 10 text) (λ n. (n ≡ digits_value 10 text) × (n ≤ 2 ^ 32 - 1))
    → MatchOption found ((n : ℕ) → IsValue text n → ⊥) (IsValue text)
plain_answer text plain None above = λ n is. omega (arith, above, decimal_value n is.small, ap (digits_value 10) is.text, is.small)
plain_answer text plain (Some n) (is, within) =
    let small : n < 2 ^ 32 = omega (arith, within) in
    record { small = small; text = ap decimal is ∙ plain_spelled text plain (omega (arith, is, small)) }
