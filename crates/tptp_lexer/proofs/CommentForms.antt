-- A comment as it is scanned has its form, and a comment is scanned to its end.
use Rattle.std.proofs.Common.{◌≡◌, ℕ, zero, suc, ◌+◌, Bool, true, false, true≢false, cond, ◌==◌, ◌&&◌, List, [], ◌∷◌, ◌++◌, length, take, drop, Option, Some, None, refl, ap, sym, ◌∙◌, arith, length-append}
use Rattle.std.specs.Option.{option_map}
use Rattle.std.proofs.lemmas.Bool.{and_parts, and_from, eqb-true, eq-eqb, not-false}
use Rattle.ascii_text.specs.Bytes.{is_in_line, begins}
use Rattle.tptp_lexer.specs.Comments.{line_len, before_close}
use Rattle.tptp_lexer.specs.Cuts.{EndsLine, HoldsClose}
use Rattle.tptp_lexer.proofs.Runs.{run-ends}

ends_by : (bytes : List ℕ) → begins is_in_line bytes ≡ false → EndsLine bytes
ends_by [] e = tt
ends_by (b ∷ bs) e = eqb-true b 10 (not-false (b == 10) e)

-- behind the line of a comment its line ends
pub line-ends : (bytes : List ℕ) → EndsLine (drop (line_len bytes) bytes)
line-ends bytes = ends_by (drop (line_len bytes) bytes) (run-ends is_in_line bytes)

-- the first `*/` stands behind so many bytes
pub record IsFirstClose (bytes : List ℕ) (n : ℕ) : Type 0 where
  pub closed : take (2 + n) bytes ≡ take n bytes ++ 42 ∷ 47 ∷ []
  pub first : HoldsClose (take n bytes ++ 42 ∷ []) → ⊥

alone : HoldsClose (42 ∷ []) → ⊥
alone (before, after, e) = let size = ap length e ∙ length-append before (42 ∷ 47 ∷ after) in absurd (omega (arith, size))

close-here : (b : ℕ) (bs : List ℕ) → b ≡ 42 → begins (λ c. c == 47) bs ≡ true → IsFirstClose (b ∷ bs) 0
close-here b [] e f = cc
close-here b (c ∷ bs) e f =
    let is : c ≡ 47 = eqb-true c 47 f in
    record { closed = rw (e, is) refl; first = alone }

same_head : (x y : ℕ) (xs ys : List ℕ) → x ∷ xs ≡ y ∷ ys → x ≡ y
same_head x y xs ys e = cc

no_star_slash : (xs ys : List ℕ) → 42 ∷ xs ≡ 47 ∷ ys → ⊥
no_star_slash xs ys e = omega (arith, same_head 42 47 xs ys e)

-- no close begins at this byte
not-here : (b : ℕ) (bs : List ℕ) (n : ℕ) → b == 42 && begins (λ c. c == 47) bs ≡ false → (after : List ℕ) → b ≡ 42 → take n bs ++ 42 ∷ [] ≡ 47 ∷ after → ⊥
not-here b bs zero t after e f = no_star_slash [] after f
not-here b [] (suc n) t after e f = no_star_slash [] after f
not-here b (c ∷ bs) (suc n) t after e f =
    let is : c ≡ 47 = cc in
    true≢false (sym (and_from (b == 42) (c == 47) (eq-eqb b 42 e) (eq-eqb c 47 is)) ∙ t)

close-later : (b : ℕ) (bs : List ℕ) (n : ℕ) → b == 42 && begins (λ c. c == 47) bs ≡ false → IsFirstClose bs n → IsFirstClose (b ∷ bs) (suc n)
close-later b bs n t found = record {
  closed = let next : 2 + suc n ≡ suc (2 + n) = omega arith in rw next (ap (λ l. b ∷ l) found.closed);
  first = none;
}
  where
    none : HoldsClose (b ∷ (take n bs ++ 42 ∷ [])) → ⊥
    none ([], after, e) = let is : b ≡ 42 = cc in let same : take n bs ++ 42 ∷ [] ≡ 47 ∷ after = cc in not-here b bs n t after is same
    none (x ∷ before, after, e) = let same : take n bs ++ 42 ∷ [] ≡ before ++ 42 ∷ 47 ∷ after = cc in found.first (before, after, same)

-- the close that is found is the first
pub before_close-first : (bytes : List ℕ) (n : ℕ) → before_close bytes ≡ Some n → IsFirstClose bytes n
unfolding before_close
before_close-first [] n e = cc
before_close-first (b ∷ bs) n e = by (b == 42 && begins (λ c. c == 47) bs) refl (before_close bs) (before_close-first bs) e
  where
    by : (t : Bool) → b == 42 && begins (λ c. c == 47) bs ≡ t → (found : Option ℕ) → ((m : ℕ) → found ≡ Some m → IsFirstClose bs m)
        → cond t (Some 0) (option_map suc found) ≡ Some n → IsFirstClose (b ∷ bs) n
    by true t found rest e =
        let zero_is : 0 ≡ n = cc in
        let parts = and_parts (b == 42) (begins (λ c. c == 47) bs) t in
        rw (← zero_is) (close-here b bs (eqb-true b 42 parts.0) parts.1)
    by false t None rest e = cc
    by false t (Some m) rest e = let next : suc m ≡ n = cc in rw (← next) (close-later b bs m t (rest m refl))

-- where no close is found, there is none
pub before_close-none : (bytes : List ℕ) → before_close bytes ≡ None → HoldsClose bytes → ⊥
unfolding before_close
before_close-none [] e ([], after, same) = cc
before_close-none [] e (x ∷ before, after, same) = cc
before_close-none (b ∷ bs) e holds = by (b == 42 && begins (λ c. c == 47) bs) refl (before_close bs) (before_close-none bs) e holds
  where
    by : (t : Bool) → b == 42 && begins (λ c. c == 47) bs ≡ t → (found : Option ℕ) → (found ≡ None → HoldsClose bs → ⊥)
        → cond t (Some 0) (option_map suc found) ≡ None → HoldsClose (b ∷ bs) → ⊥
    by true t found rest e holds = cc
    by false t (Some m) rest e holds = cc
    by false t None rest e ([], after, same) =
        let is : b ≡ 42 = cc in
        let tail : bs ≡ 47 ∷ after = cc in
        true≢false (sym (and_from (b == 42) (begins (λ c. c == 47) bs) (eq-eqb b 42 is) (rw tail refl)) ∙ t)
    by false t None rest e (x ∷ before, after, same) = let tail : bs ≡ before ++ 42 ∷ 47 ∷ after = cc in rest refl (before, after, tail)
