-- A number as it is scanned has the form of a number.
use Rattle.std.proofs.Common.{◌≡◌, ◌⊎◌, inl, inr, ℕ, suc, ◌+◌, ◌<◌, Bool, true, false, cond, ◌==◌, ◌&&◌, nat_lt, List, [], ◌∷◌, ◌++◌, take, drop, refl, ap, sym, subst, ◌∙◌, arith}
use Rattle.std.proofs.lemmas.Bool.{and_parts, or_cases, eqb-true, ltb-true, cond_both}
use Rattle.std.proofs.Math.Seq.{take-add}
use Rattle.ascii_text.specs.Bytes.{is_digit, begins}
use Rattle.tptp_lexer.specs.Numbers.{is_sign, is_exponent_mark}
use Rattle.tptp_lexer.specs.Numbers.{digits_len, marked_len, starts_number, signed_len, exponent_len, decimal_len, number_tail_len, number_rest_len}
use Rattle.tptp_lexer.specs.Forms.{IsDigits, IsSigned, IsFraction, IsExponent, IsNumber}
use Rattle.tptp_lexer.proofs.Runs.{each-run, none_or_some}

-- a run of digits that is not empty is digits
pub digits-form : (bytes : List ℕ) → begins is_digit bytes ≡ true → IsDigits (take (digits_len bytes) bytes)
digits-form [] e = cc
digits-form (b ∷ bs) e = let next : 1 + digits_len bs ≡ suc (digits_len bs) = omega arith in rw (e, next) (e, each-run is_digit bs)

-- what follows a byte that begins a number
signed_by : (b : ℕ) (bs : List ℕ) → (is_digit b ≡ true) ⊎ (is_sign b && begins is_digit bs ≡ true) → IsSigned (b ∷ take (digits_len bs) bs)
signed_by b bs (inl e) = inl (e, each-run is_digit bs)
signed_by b bs (inr e) = let parts = and_parts (is_sign b) (begins is_digit bs) e in inr (parts.0, digits-form bs parts.1)

-- a byte that begins a number, with the digits behind it, is signed digits
pub whole-form : (b : ℕ) (bs : List ℕ) → starts_number b bs ≡ true → IsSigned (b ∷ take (digits_len bs) bs)
whole-form b bs e = signed_by b bs (or_cases (is_digit b) (is_sign b && begins is_digit bs) e)

-- a mark and digits behind it, if there are any
pub marked-form : (mark : ℕ) (bytes : List ℕ) → (0 < marked_len mark bytes) → (digits : List ℕ) × IsDigits digits × (take (marked_len mark bytes) bytes ≡ mark ∷ digits)
marked-form mark [] some = absurd (omega arith)
marked-form mark (b ∷ bs) some = by (b == mark && begins is_digit bs) refl some
  where
    by : (t : Bool) → b == mark && begins is_digit bs ≡ t → 0 < cond t (1 + digits_len bs) 0
        → (digits : List ℕ) × IsDigits digits × (take (cond t (1 + digits_len bs) 0) (b ∷ bs) ≡ mark ∷ digits)
    by true e some =
        let parts = and_parts (b == mark) (begins is_digit bs) e in
        let next : 1 + digits_len bs ≡ suc (digits_len bs) = omega arith in
        (take (digits_len bs) bs, digits-form bs parts.1, rw next (ap (λ c. c ∷ take (digits_len bs) bs) (eqb-true b mark parts.0)))
    by false e some = absurd (omega arith)

-- a fraction as it is scanned has its form
pub fraction-form : (bytes : List ℕ) → IsFraction (take (marked_len 46 bytes) bytes)
fraction-form bytes = by (none_or_some (marked_len 46 bytes))
  where
    by : (marked_len 46 bytes ≡ 0) ⊎ (0 < marked_len 46 bytes) → IsFraction (take (marked_len 46 bytes) bytes)
    by (inl e) = subst (λ n. IsFraction (take n bytes)) (sym e) tt
    by (inr some) = let form = marked-form 46 bytes some in subst IsFraction (sym form.2) (refl, form.1)

-- so have signed digits
pub signed-form : (bytes : List ℕ) → 0 < signed_len bytes → IsSigned (take (signed_len bytes) bytes)
signed-form [] some = absurd (omega arith)
signed-form (b ∷ bs) some = by (starts_number b bs) refl some
  where
    by : (t : Bool) → starts_number b bs ≡ t → 0 < cond t (1 + digits_len bs) 0 → IsSigned (take (cond t (1 + digits_len bs) 0) (b ∷ bs))
    by true e some = let next : 1 + digits_len bs ≡ suc (digits_len bs) = omega arith in rw next (whole-form b bs e)
    by false e some = absurd (omega arith)

-- so has an exponent
pub exponent-form : (bytes : List ℕ) → IsExponent (take (exponent_len bytes) bytes)
exponent-form [] = tt
exponent-form (b ∷ bs) = by (is_exponent_mark b && nat_lt 0 (signed_len bs)) refl
  where
    by : (t : Bool) → is_exponent_mark b && nat_lt 0 (signed_len bs) ≡ t → IsExponent (take (cond t (1 + signed_len bs) 0) (b ∷ bs))
    by true e =
        let parts = and_parts (is_exponent_mark b) (nat_lt 0 (signed_len bs)) e in
        let next : 1 + signed_len bs ≡ suc (signed_len bs) = omega arith in
        rw next (parts.0, signed-form bs (ltb-true 0 (signed_len bs) parts.1))
    by false e = tt

-- whole digits with what follows them
tail-form : (whole bytes : List ℕ) → IsSigned whole → IsNumber (whole ++ take (number_tail_len bytes) bytes)
unfolding number_tail_len
tail-form whole bytes signed =
    cond_both (nat_lt 0 (marked_len 47 bytes)) (marked_len 47 bytes) (decimal_len bytes) (λ n. IsNumber (whole ++ take n bytes))
    (λ e. let form = marked-form 47 bytes (ltb-true 0 (marked_len 47 bytes) e) in inl (whole, form.0, signed, form.1, ap (λ l. whole ++ l) form.2))
    (λ e.
    let f = marked_len 46 bytes in
    let x = exponent_len (drop f bytes) in
    inr (whole, take f bytes, take x (drop f bytes), signed, fraction-form bytes, exponent-form (drop f bytes), ap (λ l. whole ++ l) (take-add f x bytes)))

-- so has a number
pub number-form : (b : ℕ) (bs : List ℕ) → starts_number b bs ≡ true → IsNumber (take (1 + number_rest_len bs) (b ∷ bs))
unfolding number_rest_len
number-form b bs e =
    let d = digits_len bs in
    let t = number_tail_len (drop d bs) in
    let next : 1 + (d + t) ≡ suc (d + t) = omega arith in
    let text : take (1 + (d + t)) (b ∷ bs) ≡ (b ∷ take d bs) ++ take t (drop d bs) =
    ap (λ n. take n (b ∷ bs)) next ∙ ap (λ l. b ∷ l) (take-add d t bs) in
    subst IsNumber (sym text) (tail-form (b ∷ take d bs) (drop d bs) (whole-form b bs e))
