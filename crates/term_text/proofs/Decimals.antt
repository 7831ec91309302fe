-- The number at the front of a text.
use Rattle.std.proofs.Common.{◌≡◌, ℕ, true, List, [], ◌∷◌, ◌++◌, refl, sym, ap, ◌∙◌}
use Rattle.std.specs.Fmt.{decimal}
use Rattle.ascii_text.specs.Bytes.{is_digit}
use Rattle.ascii_text.specs.Numbers.{IsValue}
use Rattle.ascii_text.proofs.Cuts.{stops, IsCut, cut_unique}
use Rattle.ascii_text.proofs.Digits.{decimal_same, decimal_digits}
use Rattle.term_text.specs.Numbers.{IsNumberAt, IsOnlyNumber, ends_number}

pub number_taken : (bytes front rest : List ℕ) (number : ℕ) → IsCut is_digit bytes front rest → IsValue front number → IsOnlyNumber bytes number rest
number_taken bytes front rest number cut value = record {
  is = record { small = value.small; text = ap (λ l. l ++ rest) value.text ∙ cut.split; ends = ends_number_of rest cut.ends };
  only = λ n r is.
      let same = cut_unique is_digit (decimal n) r front rest (decimal_digits n is.small) cut.all (stops_number r is.ends) cut.ends (is.text ∙ sym cut.split) in
      (decimal_same n number is.small value.small (same.0 ∙ sym value.text), same.1);
}
  where
    ends_number_of : (r : List ℕ) → stops is_digit r ≡ true → ends_number r ≡ true
    ends_number_of [] ends = refl
    ends_number_of (c ∷ r) ends = ends

    stops_number : (r : List ℕ) → ends_number r ≡ true → stops is_digit r ≡ true
    stops_number [] ends = refl
    stops_number (c ∷ r) ends = ends

pub number_missing : (bytes front rest : List ℕ) → IsCut is_digit bytes front rest → ((n : ℕ) → IsValue front n → ⊥) → (n : ℕ) (r : List ℕ) → IsNumberAt bytes n r → ⊥
number_missing bytes front rest cut none n r is =
    let same = cut_unique is_digit (decimal n) r front rest (decimal_digits n is.small) cut.all (stops_number r is.ends) cut.ends (is.text ∙ sym cut.split) in
    none n (record { small = is.small; text = same.0 })
  where
    stops_number : (r : List ℕ) → ends_number r ≡ true → stops is_digit r ≡ true
    stops_number [] ends = refl
    stops_number (c ∷ r) ends = ends
