-- The cursor at the front of a text.
use Rattle.std.proofs.Common.{◌≡◌, ℕ, List, sym, ap, arith}
use Rattle.tptp_lexer.specs.Spots.{first_spot}
use Rattle.tptp_lexer.specs.Tokens.{lexed_from, tokens_of, left_of, start_cursor, IsAt}
use Rattle.tptp_lexer.proofs.Places.{passed-nil}

-- the first cursor is one of every text
pub IsAt-start : (bytes : List ℕ) → IsAt bytes start_cursor
IsAt-start bytes = record { placed = record { within = omega arith; counted = sym (passed-nil first_spot) }; standing = λ fault e. cc }

-- all tokens are left there
pub left_of-start : (bytes : List ℕ) → left_of bytes start_cursor ≡ tokens_of bytes
left_of-start bytes = ap (λ spot. lexed_from bytes spot 0) (passed-nil first_spot)
