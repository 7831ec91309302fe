-- What the tries of names come to is what their rules say.
use Rattle.std.proofs.Common.{◌≡◌, ℕ, suc, ◌≤◌, ◌<◌, Bool, true, false, nat_le, List, [], ◌∷◌, length, Option, Some, None, refl, sym, subst, arith}
use Rattle.std.proofs.lemmas.Bool.Decides.{nat_tests}
use Rattle.cnf_reader.specs.Reading.{World, Opening, read_failed, open_first}
use Rattle.reading_laws.specs.Rules.{Opens, no_name, read_fails, file_absent, file_long, file_there}

fits : (n limit : ℕ) → n ≤ limit → nat_le n limit ≡ true
fits n limit within = grind (arith, nat_tests)

passes : (n limit : ℕ) → limit < n → nat_le n limit ≡ false
passes n limit more = grind (arith, nat_tests)

is_short : (n limit : ℕ) → nat_le n limit ≡ true → n ≤ limit
is_short n limit e = grind (arith, nat_tests)

is_long : (n limit : ℕ) → nat_le n limit ≡ false → limit < n
is_long n limit e = grind (arith, nat_tests)

module _ (world : World) (limit : ℕ) where
  pub opens-as : (number : ℕ) (names : List (List ℕ)) (opening : Opening) → Opens world limit number names opening → open_first world number limit names ≡ opening
  opens-as _ _ _ (no_name number) = refl
  opens-as _ _ _ (read_fails number name names fails) = rw fails refl
  opens-as _ _ _ (file_absent number name names opening whole none more) = rw (whole, none) (opens-as (suc number) names opening more)
  opens-as _ _ _ (file_long number name names bytes whole some more) = rw (whole, some, passes (length bytes) limit more) refl
  opens-as _ _ _ (file_there number name names bytes whole some within) = rw (whole, some, fits (length bytes) limit within) refl

  pub opens-so : (names : List (List ℕ)) (number : ℕ) → Opens world limit number names (open_first world number limit names)
  opens-so [] number = no_name number
  opens-so (name ∷ names) number = by (world.fails number) refl (world.files number name) refl (opens-so names (suc number))
    where
      by : (fails : Bool) → world.fails number ≡ fails → (found : Option (List ℕ)) → world.files number name ≡ found → Opens world limit (suc number) names (open_first world (suc number) limit names)
          → Opens world limit number (name ∷ names) (open_first world number limit (name ∷ names))
      by true e found f more = subst (Opens world limit number (name ∷ names)) (sym (opens-as number (name ∷ names) read_failed (read_fails number name names e))) (read_fails number name names e)
      by false e None f more =
          let rule = file_absent number name names (open_first world (suc number) limit names) e f more in
          subst (Opens world limit number (name ∷ names)) (sym (opens-as number (name ∷ names) _ rule)) rule
      by false e (Some bytes) f more = size (nat_le (length bytes) limit) refl
        where
          size : (short : Bool) → nat_le (length bytes) limit ≡ short → Opens world limit number (name ∷ names) (open_first world number limit (name ∷ names))
          size true s =
              let rule = file_there number name names bytes e f (is_short (length bytes) limit s) in
              subst (Opens world limit number (name ∷ names)) (sym (opens-as number (name ∷ names) _ rule)) rule
          size false s =
              let rule = file_long number name names bytes e f (is_long (length bytes) limit s) in
              subst (Opens world limit number (name ∷ names)) (sym (opens-as number (name ∷ names) _ rule)) rule
