-- Bytes that may stand in a name are a text.
use Rattle.std.proofs.Common.{◌≡◌, ℕ, zero, suc, ◌<◌, true, nat_le, List, [], ◌∷◌, refl, arith}
use Rattle.std.proofs.lemmas.Bool.Decides.{nat_tests}
use Rattle.std.proofs.lemmas.Str.{IsUtf8-from_ascii}
use Rattle.std.specs.Str.{IsAscii, IsUtf8}
use Rattle.std.specs.List.{list_all}
use Rattle.mg_word.specs.Facts.{is_digit, is_name_byte, is_plain_number}
use Rattle.mg_word.proofs.Members.{both_true}

below : (byte : ℕ) → is_name_byte byte ≡ true → byte < 128
below byte good = grind (arith, nat_tests)

-- they are ASCII
pub name_ascii : (name : List ℕ) → list_all is_name_byte name ≡ true → IsAscii name
name_ascii [] good i = omega arith
name_ascii (byte ∷ name) good zero = below byte (both_true (is_name_byte byte) (list_all is_name_byte name) good).0
name_ascii (byte ∷ name) good (suc i) = name_ascii name (both_true (is_name_byte byte) (list_all is_name_byte name) good).1 i

-- so they are UTF-8
pub name_utf8 : (name : List ℕ) → list_all is_name_byte name ≡ true → IsUtf8 name
name_utf8 name good = IsUtf8-from_ascii name (name_ascii name good)

digit_named : (byte : ℕ) → is_digit byte ≡ true → is_name_byte byte ≡ true
digit_named byte digit = grind (arith, nat_tests)

digits_named : (digits : List ℕ) → list_all is_digit digits ≡ true → list_all is_name_byte digits ≡ true
digits_named [] good = refl
digits_named (byte ∷ digits) good = let each = both_true (is_digit byte) (list_all is_digit digits) good in rw (digit_named byte each.0) (digits_named digits each.1)

-- a plain number is of such bytes
pub number_named : (text : List ℕ) → is_plain_number text ≡ true → list_all is_name_byte text ≡ true
number_named [] good = refl
number_named (byte ∷ []) good = rw (digit_named byte good) refl
number_named (byte ∷ next ∷ digits) good = digits_named (byte ∷ next ∷ digits) (both_true (nat_le 49 byte) (list_all is_digit (byte ∷ next ∷ digits)) good).1
