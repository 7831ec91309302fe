-- Numbers below 100 in two digits.
use Rattle.std.proofs.Common.{◌≡◌, ℕ, ◌+◌, ◌/◌, ◌%◌, ◌^◌, ◌<◌, ◌≤◌, List, [], ◌∷◌, arith}
use Rattle.std.specs.Fmt.{padded_integral, format_spec, styled_decimal, char_count}
use Rattle.std.proofs.lemmas.Fmt.{decimal_digit, decimal_step}
use Rattle.sample_maker.specs.Sample.{numbered}

-- what `{:02}` writes
abbrev pub in_two : ℕ → List ℕ
in_two number = styled_decimal (format_spec 32 0 4 2 18446744073709551615) number

one_padded : (number : ℕ) → number < 10 → in_two number ≡ (48 + number / 10) ∷ (48 + number % 10) ∷ []
unfolding padded_integral char_count
one_padded number small =
    let high : number / 10 ≡ 0 = omega arith in
    let low : number % 10 ≡ number = omega arith in
    rw (decimal_digit number small, high, low)

two_stay : (number : ℕ) → 10 ≤ number → number < 100 → in_two number ≡ (48 + number / 10) ∷ (48 + number % 10) ∷ []
unfolding padded_integral char_count
two_stay number large small =
    let below : number < 2 ^ 64 = omega arith in
    let high : number / 10 < 10 = omega arith in
    rw (decimal_step number large below, decimal_digit (number / 10) high)

pub two_digits : (number : ℕ) → number < 100 → in_two number ≡ (48 + number / 10) ∷ (48 + number % 10) ∷ []
two_digits number small = grind (arith, one_padded, two_stay)

-- a name tells its number
pub same_number : (letter other i j : ℕ) → numbered (letter ∷ []) i ≡ numbered (other ∷ []) j → i ≡ j
same_number letter other i j same =
    let high : 48 + i / 10 ≡ 48 + j / 10 = cc in
    let low : 48 + i % 10 ≡ 48 + j % 10 = cc in
    omega arith
