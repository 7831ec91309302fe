-- An answer about what is left of a list, seen from its front.
use Rattle.std.proofs.Common.{◌≡◌, ℕ, ◌+◌, suc, Option, Some, None, refl, arith}
use Rattle.std.specs.Option.{option_map}
use Rattle.tptp_lexer.specs.Quotes.{one_later}
use Rattle.tptp_lexer.specs.declared.piece.Flaw.{Flaw}

-- so many more
abbrev pub shifted : ℕ → Option ℕ → Option ℕ
shifted i found = option_map (λ n. i + n) found

-- so many bytes later
abbrev pub later : ℕ → Option Flaw → Option Flaw
later i found = option_map (λ flaw. record { kind = flaw.kind; before = i + flaw.before }) found

-- what is seen from no bytes earlier is the same
pub shifted-zero : (found : Option ℕ) → shifted 0 found ≡ found
shifted-zero None = refl
shifted-zero (Some n) = let e : 0 + n ≡ n = omega arith in rw e refl

-- what is seen from one byte later
pub shifted-suc : (i : ℕ) (found : Option ℕ) → shifted i (option_map suc found) ≡ shifted (i + 1) found
shifted-suc i None = refl
shifted-suc i (Some n) = let e : i + suc n ≡ i + 1 + n = omega arith in rw e refl

-- a fault that is seen from no bytes earlier is the same
pub later-zero : (found : Option Flaw) → later 0 found ≡ found
later-zero None = refl
later-zero (Some flaw) = let e : 0 + flaw.before ≡ flaw.before = omega arith in rw e refl

-- a fault that is seen from one byte later
pub later-suc : (i : ℕ) (found : Option Flaw) → later i (option_map one_later found) ≡ later (i + 1) found
later-suc i None = refl
later-suc i (Some flaw) = let e : i + suc flaw.before ≡ i + 1 + flaw.before = omega arith in rw e refl
