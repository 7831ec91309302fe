-- A text has the form of one kind of token at the most.
use Rattle.std.proofs.Common.{◌≡◌, ◌⊎◌, inl, inr, ℕ, ◌≤◌, true, false, cond, ◌==◌, ◌&&◌, List, [], ◌∷◌, ◌++◌, refl, sym, ap, ◌∙◌, arith}
use Rattle.std.proofs.lemmas.Bool.{or_cases, and_parts, eqb-true}
use Rattle.std.proofs.lemmas.Bool.Decides.{nat_tests}
use Rattle.std.proofs.lemmas.List.{append-nil}
use Rattle.ascii_text.specs.Bytes.{is_lower_letter, is_upper_letter, is_digit, begins}
use Rattle.tptp_lexer.specs.Numbers.{is_sign}
use Rattle.tptp_lexer.specs.Numbers.{starts_number}
use Rattle.tptp_lexer.specs.Forms.{bytes_of, IsLower, HasForm}
use Rattle.tptp_lexer.specs.declared.token.TokenKind.{TokenKind}
use Rattle.tptp_lexer.specs.declared.token.TokenKind.TheVariants.{Lower, Upper, Quoted, Distinct, Dollar, Number, NotEqual, Punct}
use Rattle.tptp_lexer.proofs.NumberBounds.{number-led}
use Rattle.tptp_lexer.proofs.PieceBounds.{StandsAlone, mark-parts}

-- the kind of a text that no letter and no quote begins: one byte, or more
abbrev other_kind : ℕ → List ℕ → TokenKind
other_kind b [] = cond (is_digit b) Number (Punct b)
other_kind b (c ∷ cs) = cond (b == 36) Dollar (cond (b == 33) NotEqual Number)

-- the only kind whose form a text can have
abbrev kind_of : List ℕ → TokenKind
kind_of [] = NotEqual
kind_of (b ∷ bs) = cond (is_lower_letter b) Lower (cond (is_upper_letter b) Upper (cond (b == 39) Quoted (cond (b == 34) Distinct (other_kind b bs))))

upper-not-lower : (b : ℕ) → is_upper_letter b ≡ true → is_lower_letter b ≡ false
upper-not-lower b e = grind (arith, nat_tests)

-- a byte that begins neither a word nor a quoted form
record IsOther (b : ℕ) : Type 0 where
  lower : is_lower_letter b ≡ false
  upper : is_upper_letter b ≡ false
  single : b == 39 ≡ false
  double : b == 34 ≡ false

other-kind : (b : ℕ) (bs : List ℕ) → IsOther b → kind_of (b ∷ bs) ≡ other_kind b bs
other-kind b bs other = rw (other.lower, other.upper, other.single, other.double) refl

digit-not-lower : (b : ℕ) → is_digit b ≡ true → is_lower_letter b ≡ false
digit-not-lower b e = grind (arith, nat_tests)

digit-not-upper : (b : ℕ) → is_digit b ≡ true → is_upper_letter b ≡ false
digit-not-upper b e = grind (arith, nat_tests)

digit-above : (b : ℕ) → is_digit b ≡ true → (m : ℕ) → m ≤ 47 → b == m ≡ false
digit-above b e m le = grind (arith, nat_tests)

digit-kind : (b : ℕ) (bs : List ℕ) → is_digit b ≡ true → kind_of (b ∷ bs) ≡ Number
digit-kind b bs e = other-kind b bs other ∙ by bs
  where
    other : IsOther b
    other = record { lower = digit-not-lower b e; upper = digit-not-upper b e; single = digit-above b e 39 (omega arith); double = digit-above b e 34 (omega arith) }

    by : (bs : List ℕ) → other_kind b bs ≡ Number
    by [] = rw e refl
    by (c ∷ cs) = rw (digit-above b e 36 (omega arith), digit-above b e 33 (omega arith)) refl

signs : (bs : List ℕ) → begins is_digit bs ≡ true → (kind_of (43 ∷ bs) ≡ Number) × (kind_of (45 ∷ bs) ≡ Number)
signs [] e = cc
signs (c ∷ cs) e = (refl, refl)

sign-kind : (b : ℕ) (bs : List ℕ) → is_sign b ≡ true → begins is_digit bs ≡ true → kind_of (b ∷ bs) ≡ Number
sign-kind b bs e d = by (or_cases (b == 43) (b == 45) e)
  where
    by : (b == 43 ≡ true) ⊎ (b == 45 ≡ true) → kind_of (b ∷ bs) ≡ Number
    by (inl is) = ap (λ x. kind_of (x ∷ bs)) (eqb-true b 43 is) ∙ (signs bs d).0
    by (inr is) = ap (λ x. kind_of (x ∷ bs)) (eqb-true b 45 is) ∙ (signs bs d).1

number-kind : (b : ℕ) (bs : List ℕ) → starts_number b bs ≡ true → kind_of (b ∷ bs) ≡ Number
number-kind b bs e = by (or_cases (is_digit b) (is_sign b && begins is_digit bs) e)
  where
    by : (is_digit b ≡ true) ⊎ ((is_sign b && begins is_digit bs) ≡ true) → kind_of (b ∷ bs) ≡ Number
    by (inl d) = digit-kind b bs d
    by (inr both) = let parts = and_parts (is_sign b) (begins is_digit bs) both in sign-kind b bs parts.0 parts.1

mark-kind : (b : ℕ) → StandsAlone b → kind_of (b ∷ []) ≡ Punct b
mark-kind b alone =
    other-kind b [] (record { lower = alone.lower; upper = alone.upper; single = alone.single; double = alone.double }) ∙ ap (λ t. cond t Number (Punct b)) alone.digit

quoted-kind : (bs : List ℕ) → (kind_of (39 ∷ bs) ≡ Quoted) × (kind_of (34 ∷ bs) ≡ Distinct)
quoted-kind bs = (refl, refl)

dollar-kind : (name more : List ℕ) → IsLower name → kind_of (36 ∷ (name ++ more)) ≡ Dollar
dollar-kind [] more form = absurd form
dollar-kind (b ∷ bs) more form = refl

twice-kind : (bs : List ℕ) → kind_of (36 ∷ 36 ∷ bs) ≡ Dollar
twice-kind bs = refl

unequal-kind : kind_of (33 ∷ 61 ∷ []) ≡ NotEqual
unequal-kind = refl

form-kind : (kind : TokenKind) (text : List ℕ) → HasForm kind text → kind_of text ≡ kind
form-kind Lower [] form = absurd form
form-kind Lower (b ∷ bs) form = rw form.0 refl
form-kind Upper [] form = absurd form
form-kind Upper (b ∷ bs) form = rw (upper-not-lower b form.0, form.0) refl
form-kind Quoted text (items, good, is) = ap kind_of is ∙ (quoted-kind (bytes_of items ++ 39 ∷ [])).0
form-kind Distinct text (items, good, is) = ap kind_of is ∙ (quoted-kind (bytes_of items ++ 34 ∷ [])).1
form-kind Dollar text (name, form, inl is) = ap kind_of (is ∙ ap (λ l. 36 ∷ l) (sym (append-nil name))) ∙ dollar-kind name [] form
form-kind Dollar text (name, form, inr is) = ap kind_of is ∙ twice-kind name
form-kind Number text form =
    let led = number-led text [] form in
    ap kind_of led.is ∙ number-kind led.first led.rest (ap (starts_number led.first) (sym (append-nil led.rest)) ∙ led.starts)
form-kind NotEqual text form = ap kind_of form ∙ unequal-kind
form-kind (Punct b) text form = ap kind_of form.0 ∙ mark-kind b (mark-parts b form.1)

-- a text that has the forms of two kinds has that of one
pub one-kind : (kind other : TokenKind) (text : List ℕ) → HasForm kind text → HasForm other text → kind ≡ other
one-kind kind other text form same = sym (form-kind kind text form) ∙ form-kind other text same
