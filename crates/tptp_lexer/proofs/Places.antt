-- Places behind bytes.
use Rattle.std.proofs.Common.{◌≡◌, ℕ, suc, ◌+◌, ◌≤◌, ◌<◌, Bool, true, false, cond, ◌==◌, List, [], ◌∷◌, ◌++◌, length, take, drop, get_or, refl, ap, ◌∙◌, arith, length-take}
use Rattle.std.proofs.lemmas.List.{at_drop_more, at_drop_all}
use Rattle.std.proofs.Math.Seq.{take-add}
use Rattle.tptp_lexer.specs.Spots.{first_spot, past, passed, spot_at}
use Rattle.tptp_lexer.specs.declared.spot.Spot.{Spot}

-- no byte moves no place
pub passed-nil : (spot : Spot) → passed spot [] ≡ spot
unfolding passed
passed-nil spot = refl

-- bytes move a place one after another
pub passed-cons : (spot : Spot) (b : ℕ) (bs : List ℕ) → passed spot (b ∷ bs) ≡ passed (past spot b) bs
unfolding passed
passed-cons spot b bs = refl

-- the same at a byte in the middle of a text
pub passed-step : (spot : Spot) (bytes : List ℕ) (i : ℕ) → i < length bytes → passed spot (drop i bytes) ≡ passed (past spot (get_or bytes i 0)) (drop (i + 1) bytes)
unfolding passed
passed-step spot bytes i lt = at_drop_more (λ l. passed spot l) bytes i 0 lt

-- and at its end
pub passed-end : (spot : Spot) (bytes : List ℕ) (i : ℕ) → length bytes ≤ i → passed spot (drop i bytes) ≡ spot
unfolding passed
passed-end spot bytes i le = at_drop_all (λ l. passed spot l) bytes i le

-- a place is moved by one text and then by the next
pub passed-append : (spot : Spot) (xs ys : List ℕ) → passed spot (xs ++ ys) ≡ passed (passed spot xs) ys
unfolding passed
passed-append spot [] ys = refl
passed-append spot (x ∷ xs) ys = passed-append (past spot x) xs ys

-- the place of a byte further on
pub spot_at-more : (bytes : List ℕ) (offset n : ℕ) → spot_at bytes (offset + n) ≡ passed (spot_at bytes offset) (take n (drop offset bytes))
spot_at-more bytes offset n = ap (passed first_spot) (take-add offset n bytes) ∙ passed-append first_spot (take offset bytes) (take n (drop offset bytes))

-- the place is that many bytes on, and at most that many lines or columns
pub record IsBehind (spot : Spot) (n : ℕ) (then : Spot) : Type 0 where
  pub offset : then.offset ≡ spot.offset + n
  pub line : then.line ≤ spot.line + n
  pub column : then.column ≤ spot.column + n

behind_by : (spot then : Spot) (n : ℕ) (t : Bool) → IsBehind (record { offset = spot.offset + 1; line = cond t (spot.line + 1) spot.line; column = cond t 1 (spot.column + 1) }) n then
    → IsBehind spot (suc n) then
behind_by spot then n true b = record { offset = omega (arith, b.offset); line = omega (arith, b.line); column = omega (arith, b.column) }
behind_by spot then n false b = record { offset = omega (arith, b.offset); line = omega (arith, b.line); column = omega (arith, b.column) }

-- a place that bytes moved is at most as many lines and columns further on
pub passed-behind : (spot : Spot) (bytes : List ℕ) → IsBehind spot (length bytes) (passed spot bytes)
unfolding passed
passed-behind spot [] = record { offset = omega arith; line = omega arith; column = omega arith }
passed-behind spot (b ∷ bs) = behind_by spot (passed (past spot b) bs) (length bs) (b == 10) (passed-behind (past spot b) bs)

-- a place in the text has a line and a column that are no further than its offset
pub spot_at-behind : (bytes : List ℕ) (offset : ℕ) → offset ≤ length bytes → IsBehind first_spot offset (spot_at bytes offset)
spot_at-behind bytes offset le =
    let size : length (take offset bytes) ≡ offset = omega (arith, length-take offset bytes) in
    rw size at (passed-behind first_spot (take offset bytes))

-- the same of one byte
pub past-behind : (spot : Spot) (b : ℕ) → IsBehind spot 1 (past spot b)
past-behind spot b = behind_by spot (past spot b) 0 (b == 10) (record { offset = omega arith; line = omega arith; column = omega arith })
