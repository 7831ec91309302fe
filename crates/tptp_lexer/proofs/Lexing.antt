-- What is left of a text, one piece on.
use Rattle.std.proofs.Common.{◌≡◌, ℕ, zero, suc, ◌-◌, ◌≤◌, ◌<◌, Some, None, List, [], ◌∷◌, length, take, drop, refl, ap, sym, ◌∙◌, arith}
use Rattle.tptp_lexer.specs.Pieces.{piece_of}
use Rattle.tptp_lexer.specs.Spots.{past, passed}
use Rattle.tptp_lexer.specs.Tokens.{Lexed, token_of, preceded_by, fault_at, lexed_by, lexed_from}
use Rattle.tptp_lexer.specs.declared.piece.Piece.TheVariants.{Blank, Lexeme, Fault, End}
use Rattle.tptp_lexer.specs.declared.spot.Spot.{Spot}
use Rattle.tptp_lexer.specs.declared.token.TokenKind.{TokenKind}
use Rattle.tptp_lexer.specs.declared.token.LexKind.{LexKind}
use Rattle.tptp_lexer.proofs.Places.{passed-nil, passed-cons}

-- the rest of a piece under way is passed byte by byte
pub lexed_from-passing : (bytes : List ℕ) (spot : Spot) (n : ℕ) → n ≤ length bytes → lexed_from bytes spot n ≡ lexed_from (drop n bytes) (passed spot (take n bytes)) 0
unfolding lexed_from
lexed_from-passing [] spot zero le = refl
lexed_from-passing [] spot (suc n) le = absurd (omega arith)
lexed_from-passing (b ∷ bs) spot zero le = ap (λ s. lexed_from (b ∷ bs) s 0) (sym (passed-nil spot))
lexed_from-passing (b ∷ bs) spot (suc n) le =
    lexed_from-passing bs (past spot b) n (omega arith) ∙ ap (λ s. lexed_from (drop n bs) s 0) (sym (passed-cons spot b (take n bs)))

-- what comes behind a piece of n bytes
abbrev pub behind : List ℕ → Spot → ℕ → Lexed
behind bytes spot n = lexed_from (drop n bytes) (passed spot (take n bytes)) 0

behind-first : (b : ℕ) (bs : List ℕ) (spot : Spot) (n : ℕ) → 0 < n → n ≤ suc (length bs) → lexed_from bs (past spot b) (n - 1) ≡ behind (b ∷ bs) spot n
behind-first b bs spot zero some le = absurd (omega arith)
behind-first b bs spot (suc n) some le =
    let less : suc n - 1 ≡ n = omega arith in
    ap (lexed_from bs (past spot b)) less
    ∙ lexed_from-passing bs (past spot b) n (omega arith) ∙ ap (λ s. lexed_from (drop n bs) s 0) (sym (passed-cons spot b (take n bs)))

-- white space or a comment is passed over
pub lexed_from-blank : (bytes : List ℕ) (spot : Spot) (n : ℕ) → piece_of bytes ≡ Blank n → 0 < n → n ≤ length bytes → lexed_from bytes spot 0 ≡ behind bytes spot n
unfolding lexed_from
lexed_from-blank [] spot n e some le = cc
lexed_from-blank (b ∷ bs) spot n e some le =
    ap (λ piece. lexed_by piece spot (b ∷ bs) (λ m. lexed_from bs (past spot b) m)) e ∙ behind-first b bs spot n some le

-- the token comes before what is behind it
abbrev pub preceded : List ℕ → Spot → ℕ → TokenKind → Lexed → Lexed
preceded bytes spot n kind lexed = preceded_by (token_of spot kind (take n bytes)) lexed

-- a token comes first, and then what is behind it
pub lexed_from-lexeme : (bytes : List ℕ) (spot : Spot) (kind : TokenKind) (n : ℕ) → piece_of bytes ≡ Lexeme kind n → 0 < n → n ≤ length bytes
    → lexed_from bytes spot 0 ≡ preceded bytes spot n kind (behind bytes spot n)
unfolding lexed_from
lexed_from-lexeme [] spot kind n e some le = cc
lexed_from-lexeme (b ∷ bs) spot kind n e some le =
    ap (λ piece. lexed_by piece spot (b ∷ bs) (λ m. lexed_from bs (past spot b) m)) e ∙ ap (preceded (b ∷ bs) spot n kind) (behind-first b bs spot n some le)

-- a fault ends the tokens
pub lexed_from-fault : (bytes : List ℕ) (spot : Spot) (kind : LexKind) (n : ℕ) → piece_of bytes ≡ Fault kind n
    → lexed_from bytes spot 0 ≡ record { tokens = []; fault = Some (fault_at kind (passed spot (take n bytes))) }
unfolding lexed_from
lexed_from-fault [] spot kind n e = cc
lexed_from-fault (b ∷ bs) spot kind n e = ap (λ piece. lexed_by piece spot (b ∷ bs) (λ m. lexed_from bs (past spot b) m)) e

-- the end ends the tokens
pub lexed_from-end : (bytes : List ℕ) (spot : Spot) → piece_of bytes ≡ End → lexed_from bytes spot 0 ≡ record { tokens = []; fault = None }
unfolding lexed_from
lexed_from-end [] spot e = refl
lexed_from-end (b ∷ bs) spot e = ap (λ piece. lexed_by piece spot (b ∷ bs) (λ m. lexed_from bs (past spot b) m)) e
