-- Numbers in decimal digits.
use Rattle.std.specs.Prelude.{◌≡◌, ℕ, ◌<◌, ◌^◌, Bool, false, ◌&&◌, List, [], ◌∷◌, nat_le}
use Rattle.std.specs.List.{list_all}
use Rattle.std.specs.Fmt.{decimal}
use Rattle.ascii_text.specs.Bytes.{is_digit}

-- digits alone, without a leading zero unless it is `0`
abbrev pub is_plain_number : List ℕ → Bool
is_plain_number [] = false
is_plain_number (first ∷ []) = is_digit first
is_plain_number (first ∷ second ∷ digits) = nat_le 49 first && list_all is_digit (first ∷ second ∷ digits)

-- the digits are the decimal spelling of the number, which is below 2 ^ 32
pub record IsValue (digits : List ℕ) (number : ℕ) : Type 0 where
  pub small : number < 2 ^ 32
  pub text : decimal number ≡ digits
