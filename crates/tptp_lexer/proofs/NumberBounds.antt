-- A number is scanned to its end.
use Rattle.std.proofs.Common.{◌≡◌, ◌⊎◌, inl, inr, ℕ, suc, ◌+◌, ◌≤◌, ◌<◌, true, false, ◌==◌, ◌&&◌, nat_lt, List, [], ◌∷◌, ◌++◌, length, drop, refl, ap, sym, subst, ◌∙◌, arith, length-append, append_assoc}
use Rattle.std.proofs.lemmas.Bool.{and_from, or_left, or_right, lt-ltb, eq-eqb}
use Rattle.std.proofs.lemmas.Bool.Decides.{nat_tests}
use Rattle.std.proofs.lemmas.List.{drop_at}
use Rattle.ascii_text.specs.Bytes.{is_digit, begins}
use Rattle.tptp_lexer.specs.Numbers.{is_sign, is_exponent_mark}
use Rattle.tptp_lexer.specs.Numbers.{marked_len, starts_number, signed_len, exponent_len, decimal_len, number_tail_len, number_rest_len}
use Rattle.tptp_lexer.specs.Forms.{Each, IsDigits, IsSigned, IsFraction, IsExponent, IsNumber}
use Rattle.tptp_lexer.proofs.Runs.{run-least, run-exact, none_or_some}

digits-begin : (digits more : List ℕ) → IsDigits digits → begins is_digit (digits ++ more) ≡ true
digits-begin [] more form = absurd form
digits-begin (b ∷ bs) more form = form.0

digits-each : (digits : List ℕ) → IsDigits digits → Each is_digit digits
digits-each [] form = absurd form
digits-each (b ∷ bs) form = form

-- signed digits begin a number, whatever comes behind them
pub whole-starts : (b : ℕ) (bs more : List ℕ) → IsSigned (b ∷ bs) → starts_number b (bs ++ more) ≡ true
whole-starts b bs more (inl form) = or_left (is_digit b) (is_sign b && begins is_digit (bs ++ more)) form.0
whole-starts b bs more (inr form) =
    or_right (is_digit b) (is_sign b && begins is_digit (bs ++ more)) (and_from (is_sign b) (begins is_digit (bs ++ more)) form.0 (digits-begin bs more form.1))

whole-each : (b : ℕ) (bs : List ℕ) → IsSigned (b ∷ bs) → Each is_digit bs
whole-each b bs (inl form) = form.1
whole-each b bs (inr form) = digits-each bs form.1

marked-least : (mark : ℕ) (digits more : List ℕ) → IsDigits digits → 1 + length digits ≤ marked_len mark (mark ∷ (digits ++ more))
marked-least mark digits more form =
    rw (eq-eqb mark mark refl, digits-begin digits more form) (omega (arith, run-least is_digit digits more (digits-each digits form)))

marked-exact : (mark : ℕ) (digits more : List ℕ) → IsDigits digits → begins is_digit more ≡ false → marked_len mark (mark ∷ (digits ++ more)) ≡ suc (length digits)
marked-exact mark digits more form ends =
    rw (eq-eqb mark mark refl, digits-begin digits more form) (omega (arith, run-exact is_digit digits more (digits-each digits form) ends))

marked-none : (mark b : ℕ) (bs : List ℕ) → b == mark ≡ false → marked_len mark (b ∷ bs) ≡ 0
marked-none mark b bs e = rw e refl

signed-least : (text more : List ℕ) → IsSigned text → (0 < length text) × (length text ≤ signed_len (text ++ more))
signed-least [] more form = absurd form
signed-least (b ∷ bs) more form = (omega arith, rw (whole-starts b bs more form) (omega (arith, run-least is_digit bs more (whole-each b bs form))))

exponent-least : (text more : List ℕ) → IsExponent text → length text ≤ exponent_len (text ++ more)
exponent-least [] more form = omega arith
exponent-least (b ∷ bs) more form =
    let least = signed-least bs more form.1 in
    let some : nat_lt 0 (signed_len (bs ++ more)) ≡ true = lt-ltb 0 (signed_len (bs ++ more)) (omega (arith, least.0, least.1)) in
    rw (form.0, some) (omega (arith, least.1))

exponent-apart : (b : ℕ) → is_exponent_mark b ≡ true → (is_digit b ≡ false) × (b == 46 ≡ false) × (b == 47 ≡ false)
exponent-apart b e = (grind (arith, nat_tests), grind (arith, nat_tests), grind (arith, nat_tests))

tail-quotient : (bytes : List ℕ) → 0 < marked_len 47 bytes → number_tail_len bytes ≡ marked_len 47 bytes
unfolding number_tail_len
tail-quotient bytes some = rw (lt-ltb 0 (marked_len 47 bytes) some) refl

tail-decimal : (bytes : List ℕ) → marked_len 47 bytes ≡ 0 → number_tail_len bytes ≡ decimal_len bytes
unfolding number_tail_len
tail-decimal bytes none = rw none refl

quotient-least : (digits more : List ℕ) → IsDigits digits → 1 + length digits ≤ number_tail_len (47 ∷ (digits ++ more))
quotient-least digits more form =
    let least = marked-least 47 digits more form in
    omega (arith, least, tail-quotient (47 ∷ (digits ++ more)) (omega (arith, least)))

-- a fraction, and an exponent behind it
fraction-least : (digits exponent more : List ℕ) → IsDigits digits → IsExponent exponent → 1 + length digits + length exponent ≤ decimal_len (46 ∷ (digits ++ (exponent ++ more)))
fraction-least digits [] more form raised = omega (arith, marked-least 46 digits more form)
fraction-least digits (x ∷ xs) more form raised =
    let exact = marked-exact 46 digits ((x ∷ xs) ++ more) form (exponent-apart x raised.0).0 in
    let behind : drop (suc (length digits)) (46 ∷ (digits ++ ((x ∷ xs) ++ more))) ≡ (x ∷ xs) ++ more = drop_at digits ((x ∷ xs) ++ more) (length digits) refl in
    let least = exponent-least (x ∷ xs) more raised in
    rw (exact, behind) (omega (arith, least))

tail-least : (fraction exponent more : List ℕ) → IsFraction fraction → IsExponent exponent → length fraction + length exponent ≤ number_tail_len (fraction ++ (exponent ++ more))
tail-least [] [] more form raised = omega arith
tail-least [] (x ∷ xs) more form raised =
    let apart = exponent-apart x raised.0 in
    let least = exponent-least (x ∷ xs) more raised in
    let none = marked-none 46 x (xs ++ more) apart.1 in
    let whole = tail-decimal (x ∷ (xs ++ more)) (marked-none 47 x (xs ++ more) apart.2) in
    let size : decimal_len (x ∷ (xs ++ more)) ≡ 0 + exponent_len (x ∷ (xs ++ more)) = ap (λ n. n + exponent_len (drop n (x ∷ (xs ++ more)))) none in
    omega (arith, least, whole, size)
tail-least (b ∷ bs) exponent more form raised =
    let least = fraction-least bs exponent more form.1 raised in
    let whole = tail-decimal (46 ∷ (bs ++ (exponent ++ more))) (marked-none 47 46 (bs ++ (exponent ++ more)) refl) in
    subst (λ c. suc (length bs) + length exponent ≤ number_tail_len (c ∷ (bs ++ (exponent ++ more)))) (sym form.0) (omega (arith, least, whole))

rest-least : (digits more : List ℕ) → Each is_digit digits → length digits ≤ number_rest_len (digits ++ more)
unfolding number_rest_len
rest-least digits more each = omega (arith, run-least is_digit digits more each)

rest-exact : (digits more : List ℕ) → Each is_digit digits → begins is_digit more ≡ false → number_rest_len (digits ++ more) ≡ length digits + number_tail_len more
unfolding number_rest_len
rest-exact digits more each ends =
    rw (run-exact is_digit digits more each ends, drop_at digits more (length digits) refl) refl

-- the fraction or the exponent, where there is one, begins with no digit
tail-begins : (fraction exponent more : List ℕ) → IsFraction fraction → IsExponent exponent → 0 < length fraction + length exponent → begins is_digit (fraction ++ (exponent ++ more)) ≡ false
tail-begins [] [] more form raised some = absurd (omega arith)
tail-begins [] (x ∷ xs) more form raised some = (exponent-apart x raised.0).0
tail-begins (b ∷ bs) exponent more form raised some = rw form.0 refl

-- a number behind its first byte
pub record IsLed (text more : List ℕ) : Type 0 where
  pub first : ℕ
  pub rest : List ℕ
  pub is : text ≡ first ∷ rest
  pub starts : starts_number first (rest ++ more) ≡ true
  pub least : length text ≤ 1 + number_rest_len (rest ++ more)

quotient-led : (whole digits text more : List ℕ) → IsSigned whole → IsDigits digits → text ≡ whole ++ 47 ∷ digits → IsLed text more
quotient-led [] digits text more signed form is = absurd signed
quotient-led (b ∷ bs) digits text more signed form is =
    let apart : (bs ++ 47 ∷ digits) ++ more ≡ bs ++ (47 ∷ (digits ++ more)) = append_assoc bs (47 ∷ digits) more in
    let size : length text ≡ suc (length bs) + suc (length digits) = ap length is ∙ length-append (b ∷ bs) (47 ∷ digits) in
    let exact = rest-exact bs (47 ∷ (digits ++ more)) (whole-each b bs signed) refl in
    let least = quotient-least digits more form in
    record {
      first = b;
      rest = bs ++ 47 ∷ digits;
      is = is;
      starts = rw apart (whole-starts b bs (47 ∷ (digits ++ more)) signed);
      least = rw apart (omega (arith, size, exact, least));
    }

decimal-led : (whole fraction exponent text more : List ℕ) → IsSigned whole → IsFraction fraction → IsExponent exponent → text ≡ whole ++ (fraction ++ exponent) → IsLed text more
decimal-led [] fraction exponent text more signed form raised is = absurd signed
decimal-led (b ∷ bs) fraction exponent text more signed form raised is =
    let apart : (bs ++ (fraction ++ exponent)) ++ more ≡ bs ++ (fraction ++ (exponent ++ more)) =
    append_assoc bs (fraction ++ exponent) more ∙ ap (λ l. bs ++ l) (append_assoc fraction exponent more) in
    let size : length text ≡ suc (length bs) + (length fraction + length exponent) =
    ap length is ∙ length-append (b ∷ bs) (fraction ++ exponent) ∙ ap (λ n. suc (length bs) + n) (length-append fraction exponent) in
    record {
      first = b;
      rest = bs ++ (fraction ++ exponent);
      is = is;
      starts = rw apart (whole-starts b bs (fraction ++ (exponent ++ more)) signed);
      least = rw apart (by size (none_or_some (length fraction + length exponent)));
    }
  where
    by : length text ≡ suc (length bs) + (length fraction + length exponent) → (length fraction + length exponent ≡ 0) ⊎ (0 < length fraction + length exponent)
        → length text ≤ 1 + number_rest_len (bs ++ (fraction ++ (exponent ++ more)))
    by size (inl none) = omega (arith, size, none, rest-least bs (fraction ++ (exponent ++ more)) (whole-each b bs signed))
    by size (inr some) =
        omega (
          arith,
          size,
          tail-least fraction exponent more form raised,
          rest-exact bs (fraction ++ (exponent ++ more)) (whole-each b bs signed) (tail-begins fraction exponent more form raised some),
        )

-- the first byte of a number begins one, and the scan takes at least its text
pub number-led : (text more : List ℕ) → IsNumber text → IsLed text more
number-led text more (inl form) = quotient-led form.0 form.1 text more form.2 form.3 form.4
number-led text more (inr form) = decimal-led form.0 form.1 form.2 text more form.3 form.4 form.5 form.6
