-- A number is plain exactly where its text is `0`, or digits that begin with no zero.
use Rattle.std.proofs.Common.{◌≡◌, ◌≢◌, ◌↔◌, inl, inr, ℕ, ◌<◌, Bool, true, nat_le, List, [], ◌∷◌, length, refl, ap, arith}
use Rattle.std.specs.List.{list_all}
use Rattle.std.proofs.lemmas.Bool.{and_parts, and_from, cases_eq}
use Rattle.std.proofs.lemmas.Bool.Decides.{nat_tests}
use Rattle.ascii_text.specs.Bytes.{is_digit}
use Rattle.ascii_text.specs.Numbers.{is_plain_number}
use Rattle.tptp_lexer.specs.Tokens.{plain_of}
use Rattle.tptp_lexer.specs.Forms.{Each, IsPlainNumber, IsPlain}
use Rattle.tptp_lexer.specs.declared.token.TokenKind.{TokenKind}
use Rattle.tptp_lexer.specs.declared.token.TokenKind.TheVariants.{Lower, Upper, Quoted, Distinct, Dollar, Number, NotEqual, Punct}

each-all : (test : ℕ → Bool) (bytes : List ℕ) → list_all test bytes ≡ true → Each test bytes
each-all test [] e = tt
each-all test (b ∷ bs) e = let parts = and_parts (test b) (list_all test bs) e in (parts.0, each-all test bs parts.1)

all-each : (test : ℕ → Bool) (bytes : List ℕ) → Each test bytes → list_all test bytes ≡ true
all-each test [] each = refl
all-each test (b ∷ bs) each = and_from (test b) (list_all test bs) each.0 (all-each test bs each.1)

above_zero : (b : ℕ) → nat_le 49 b ≡ true → b ≢ 48
above_zero b above is = grind (arith, nat_tests)

not_zero : (b : ℕ) → is_digit b ≡ true → b ≢ 48 → nat_le 49 b ≡ true
not_zero b digit apart = grind (arith, nat_tests)

-- one digit is `0`, or it is no zero
one_digit : (b : ℕ) → is_digit b ≡ true → IsPlainNumber (b ∷ [])
one_digit b digit = elim (cases_eq b 48) [ inl is ↦ inl (ap (λ c. c ∷ []) is) | inr apart ↦ inr (digit, apart, tt) ]

plain-number : (text : List ℕ) → is_plain_number text ≡ true → IsPlainNumber text
plain-number [] e = cc
plain-number (b ∷ []) e = one_digit b e
plain-number (b ∷ c ∷ bs) e =
    let parts = and_parts (nat_le 49 b) (list_all is_digit (b ∷ c ∷ bs)) e in
    let digits = and_parts (is_digit b) (list_all is_digit (c ∷ bs)) parts.1 in
    inr (digits.0, above_zero b parts.0, each-all is_digit (c ∷ bs) digits.1)

number-plain : (text : List ℕ) → IsPlainNumber text → is_plain_number text ≡ true
number-plain [] form = absurd form
number-plain (b ∷ bs) (inl is) = ap is_plain_number is
number-plain (b ∷ []) (inr (digit, apart, digits)) = digit
number-plain (b ∷ c ∷ bs) (inr (digit, apart, digits)) =
    and_from (nat_le 49 b) (list_all is_digit (b ∷ c ∷ bs)) (not_zero b digit apart) (and_from (is_digit b) (list_all is_digit (c ∷ bs)) digit (all-each is_digit (c ∷ bs) digits))

-- a token with some text is plain exactly where its kind and its text say so
pub plain-form : (kind : TokenKind) (text : List ℕ) → 0 < length text → (plain_of kind text ≡ true) ↔ IsPlain kind text
plain-form Number text some = (plain-number text, number-plain text)
plain-form Lower text some = (λ e. cc, λ h. absurd h)
plain-form Upper text some = (λ e. cc, λ h. absurd h)
plain-form Quoted text some = (λ e. cc, λ h. absurd h)
plain-form Distinct text some = (λ e. cc, λ h. absurd h)
plain-form Dollar text some = (λ e. cc, λ h. absurd h)
plain-form NotEqual text some = (λ e. cc, λ h. absurd h)
plain-form (Punct b) text some = (λ e. cc, λ h. absurd h)
