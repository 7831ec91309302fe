-- Numbers at the front of a text. No public clause cites this module.
use Rattle.std.specs.Prelude.{◌≡◌, ℕ, ◌<◌, ◌^◌, Bool, true, not, List, [], ◌∷◌, ◌++◌}
use Rattle.std.specs.Fmt.{decimal}
use Rattle.mg_word.specs.Facts.{is_digit}

-- no number goes on here
abbrev pub ends_number : List ℕ → Bool
ends_number [] = true
ends_number (byte ∷ rest) = not (is_digit byte)

-- the text begins with that number
pub record IsNumberAt (bytes : List ℕ) (number : ℕ) (rest : List ℕ) : Type 0 where
  pub small : number < 2 ^ 32
  pub text : decimal number ++ rest ≡ bytes
  pub ends : ends_number rest ≡ true

pub record IsOnlyNumber (bytes : List ℕ) (number : ℕ) (rest : List ℕ) : Type 0 where
  pub is : IsNumberAt bytes number rest
  pub only : (n : ℕ) (r : List ℕ) → IsNumberAt bytes n r → (n ≡ number) × (r ≡ rest)
