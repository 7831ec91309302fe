-- The names of sample problems, digit by digit.
use Rattle.std.proofs.Common.{◌≡◌, ◌≤◌, ◌<◌, ◌+◌, ◌/◌, ◌%◌, ℕ, [], ◌∷◌, ◌++◌, sym, ap, ◌∙◌, arith, codes}
use Rattle.std.proofs.lemmas.Fmt.{decimal_digit, decimal_step}
use Rattle.std.specs.Fmt.{decimal}
use Rattle.szs_report.specs.Names.{sample_name}

-- a size of one digit
pub one_digit : (size n : ℕ) → size ≡ n → n < 10 → codes "sample-" ++ (48 + n) ∷ [] ≡ sample_name size
one_digit size n is small = ap (λ digits. codes "sample-" ++ digits) (sym (ap decimal is ∙ decimal_digit n small))

-- a size of two digits
pub two_digits : (size n : ℕ) → size ≡ n → 10 ≤ n → n < 100 → codes "sample-" ++ (48 + n / 10) ∷ (48 + n % 10) ∷ [] ≡ sample_name size
two_digits size n is least most =
    let high : n / 10 < 10 = omega (arith, most) in
    ap (λ digits. codes "sample-" ++ digits) (sym (ap decimal is ∙ (decimal_step n least (omega (arith, most)) ∙ ap (λ front. front ++ (48 + n % 10) ∷ []) (decimal_digit (n / 10) high))))
