-- Where a text ends: places counted byte by byte.
use Rattle.std.proofs.Common.{◌≡◌, Bool, true, false, ℕ, zero, suc, ◌+◌, ◌<◌, ◌≤◌, List, [], ◌∷◌, length, drop, take, get_or, refl, sym, ap, ◌∙◌, arith, add-one, drop-cons, subst, ◌==◌, if◌then◌else◌}
use Rattle.tptp_lexer.specs.declared.spot.Spot.{Spot}
use Rattle.tptp_lexer.specs.Spots.{first_spot, past, passed, spot_at}

-- one byte is passed
pub passed_byte : (bytes : List ℕ) (at : ℕ) (byte : ℕ) (spot next : Spot) → at < length bytes → byte ≡ get_or bytes at byte → passed spot (drop at bytes) ≡ passed first_spot bytes → next ≡ past spot byte
    → passed next (drop (at + 1) bytes) ≡ passed first_spot bytes
unfolding passed
passed_byte bytes at byte spot next within is so_far moves =
    let split = drop-cons bytes at byte within in
    let first : passed spot (drop at bytes) ≡ passed (past spot (get_or bytes at byte)) (drop (suc at) bytes) = ap (λ l. passed spot l) split in
    let here : passed (past spot byte) (drop (suc at) bytes) ≡ passed first_spot bytes = ap (λ b. passed (past spot b) (drop (suc at) bytes)) is ∙ sym first ∙ so_far in
    subst (λ (s : Spot). passed s (drop (at + 1) bytes) ≡ passed first_spot bytes) (sym moves) (subst (λ k. passed (past spot byte) (drop k bytes) ≡ passed first_spot bytes) (sym (add-one at)) here)

drop_none : (bytes : List ℕ) (at : ℕ) → length bytes ≤ at → drop at bytes ≡ []
drop_none [] zero all = refl
drop_none [] (suc at) all = refl
drop_none (byte ∷ bytes) zero all = absurd (omega arith)
drop_none (byte ∷ bytes) (suc at) all = drop_none bytes at (omega arith)

take_whole : (bytes : List ℕ) → take (length bytes) bytes ≡ bytes
take_whole [] = refl
take_whole (byte ∷ bytes) = ap (λ more. byte ∷ more) (take_whole bytes)

-- all bytes are passed
pub passed_all : (bytes : List ℕ) (at : ℕ) (spot : Spot) → length bytes ≤ at → passed spot (drop at bytes) ≡ passed first_spot bytes → spot ≡ spot_at bytes (length bytes)
unfolding passed
passed_all bytes at spot past_end so_far = sym (ap (λ l. passed spot l) (drop_none bytes at past_end)) ∙ so_far ∙ sym (ap (λ l. passed first_spot l) (take_whole bytes))

-- the place behind one more byte
pub next_spot : (bytes : List ℕ) (at line column next_line next_column byte : ℕ) → at < length bytes → byte ≡ get_or bytes at byte → passed (record { offset = at; line = line; column = column }) (drop at bytes) ≡ passed first_spot bytes
    → next_line ≡ (if byte == 10 then line + 1 else line) → next_column ≡ (if byte == 10 then 1 else column + 1)
    → passed (record { offset = at + 1; line = next_line; column = next_column }) (drop (at + 1) bytes) ≡ passed first_spot bytes
next_spot bytes at line column next_line next_column byte within is so_far lines columns =
    passed_byte bytes at byte (record { offset = at; line = line; column = column }) (record { offset = at + 1; line = next_line; column = next_column }) within is so_far (rw (lines, columns) refl)

-- an element that is there does not depend on the default
pub same_default : (bytes : List ℕ) (at d e : ℕ) → at < length bytes → get_or bytes at d ≡ get_or bytes at e
same_default [] at d e within = absurd (omega arith)
same_default (byte ∷ bytes) zero d e within = refl
same_default (byte ∷ bytes) (suc at) d e within = same_default bytes at d e (omega arith)

-- a count goes up by one at most
pub bounded : (b : Bool) (next more less most : ℕ) → next ≡ (if b then more else less) → more ≤ most + 1 → less ≤ most + 1 → next ≤ most + 1
bounded true next more less most is first second = omega (arith, is)
bounded false next more less most is first second = omega (arith, is)
