-- Each piece is a part of the text that it begins.
use Rattle.std.proofs.Common.{◌≡◌, ℕ, suc, ◌+◌, ◌≤◌, ◌<◌, false, ◌==◌, Option, Some, None, List, [], ◌∷◌, length, take, drop, refl, arith, length-drop, length-take}
use Rattle.std.proofs.lemmas.Bool.{cond_both}
use Rattle.std.proofs.lemmas.Bool.Decides.{nat_tests}
use Rattle.ascii_text.specs.Bytes.{is_white, is_lower_letter, is_upper_letter, is_visible, begins}
use Rattle.tptp_lexer.specs.Comments.{before_close}
use Rattle.tptp_lexer.specs.Quotes.{before_quote, first_flaw}
use Rattle.tptp_lexer.specs.Numbers.{starts_number}
use Rattle.tptp_lexer.specs.Pieces.{block_piece, slash_piece, closed_piece, quoted_piece_by, quoted_piece, name_len, named_piece, dollar_piece, bang_piece, mark_piece, piece_from, piece_of}
use Rattle.tptp_lexer.specs.declared.piece.Flaw.{Flaw}
use Rattle.tptp_lexer.specs.declared.piece.Piece.{Piece}
use Rattle.tptp_lexer.specs.declared.piece.Piece.TheVariants.{Blank, Lexeme, Fault, End}
use Rattle.tptp_lexer.specs.declared.token.TokenKind.{TokenKind}
use Rattle.tptp_lexer.specs.declared.token.TokenKind.TheVariants.{Quoted, Distinct, Dollar, NotEqual, Punct}
use Rattle.tptp_lexer.specs.declared.token.LexKind.TheVariants.{BadByte}
use Rattle.tptp_lexer.proofs.Lengths.{word_len-le, line_len-le, number_rest_len-le, name_len-le, before_close-le, before_quote-le, first_flaw-lt, begins_some}

-- the piece has at least one byte, and no more than this many
abbrev pub IsWithin : ℕ → Piece → Type 0
IsWithin size (Blank n) = (0 < n) × (n ≤ size)
IsWithin size (Lexeme kind n) = (0 < n) × (n ≤ size)
IsWithin size (Fault kind n) = n < size
IsWithin size End = Unit {0}

block-within : (bytes : List ℕ) (found : Option ℕ) → before_close bytes ≡ found → IsWithin (2 + length bytes) (block_piece found)
block-within bytes None e = omega arith
block-within bytes (Some n) e = let le : n + 2 ≤ length bytes = before_close-le bytes n e in (omega arith, omega arith)

slash-within : (bytes : List ℕ) → IsWithin (1 + length bytes) (slash_piece bytes)
unfolding slash_piece
slash-within [] = (omega arith, omega arith)
slash-within (b ∷ bs) =
    let size : 2 + length bs ≡ 1 + suc (length bs) = omega arith in
    cond_both (b == 42) (block_piece (before_close bs)) (Lexeme (Punct 47) 1) (IsWithin (1 + suc (length bs)))
    (λ _. rw (← size) (block-within bs (before_close bs) refl)) (λ _. (omega arith, omega arith))

closed-within : (kind : TokenKind) (n size : ℕ) (found : Option Flaw) → n + 1 ≤ size → ((flaw : Flaw) → found ≡ Some flaw → flaw.before < n) → IsWithin (1 + size) (closed_piece kind n found)
closed-within kind n size None le inside = (omega arith, omega arith)
closed-within kind n size (Some flaw) le inside = omega (arith, inside flaw refl)

quoted_by-within : (kind : TokenKind) (quote : ℕ) (bytes : List ℕ) (found : Option ℕ) → before_quote quote false bytes ≡ found → IsWithin (1 + length bytes) (quoted_piece_by kind quote bytes found)
quoted_by-within kind quote bytes None e = omega arith
quoted_by-within kind quote bytes (Some n) e =
    closed-within kind n (length bytes) (first_flaw quote false (take n bytes)) (before_quote-le quote false bytes n e)
    (λ flaw is. omega (arith, first_flaw-lt quote false (take n bytes) flaw is, length-take n bytes))

quoted-within : (kind : TokenKind) (quote : ℕ) (bytes : List ℕ) → IsWithin (1 + length bytes) (quoted_piece kind quote bytes)
unfolding quoted_piece
quoted-within kind quote bytes = quoted_by-within kind quote bytes (before_quote quote false bytes) refl

above_zero : (n : ℕ) → n == 0 ≡ false → 0 < n
above_zero n e = grind (arith, nat_tests)

named-within : (marks name size : ℕ) → 0 < size → marks + name ≤ size → IsWithin size (named_piece marks name)
named-within marks name size some le =
    cond_both (name == 0) (Lexeme (Punct 36) 1) (Lexeme Dollar (marks + name)) (IsWithin size) (λ _. (omega arith, omega arith))
    (λ e. (omega (arith, above_zero name e), le))

dollar-within : (bytes : List ℕ) → IsWithin (1 + length bytes) (dollar_piece bytes)
unfolding dollar_piece
dollar-within bytes =
    cond_both (begins (λ b. b == 36) bytes) (named_piece 2 (name_len (drop 1 bytes))) (named_piece 1 (name_len bytes)) (IsWithin (1 + length bytes))
    (λ e. named-within 2 (name_len (drop 1 bytes)) (1 + length bytes) (omega arith) (omega (arith, name_len-le (drop 1 bytes), length-drop 1 bytes, begins_some (λ b. b == 36) bytes e)))
    (λ _. named-within 1 (name_len bytes) (1 + length bytes) (omega arith) (omega (arith, name_len-le bytes)))

bang-within : (bytes : List ℕ) → IsWithin (1 + length bytes) (bang_piece bytes)
unfolding bang_piece
bang-within bytes =
    cond_both (begins (λ b. b == 61) bytes) (Lexeme NotEqual 2) (Lexeme (Punct 33) 1) (IsWithin (1 + length bytes))
    (λ e. (omega arith, omega (arith, begins_some (λ b. b == 61) bytes e))) (λ _. (omega arith, omega arith))

mark-within : (b : ℕ) (bs : List ℕ) → IsWithin (1 + length bs) (mark_piece b bs)
unfolding mark_piece
mark-within b bs =
    cond_both (b == 37) _ _ (IsWithin (1 + length bs)) (λ _. (omega arith, omega (arith, line_len-le bs)))
    (λ _. cond_both (b == 47) _ _ (IsWithin (1 + length bs)) (λ _. slash-within bs)
    (λ _. cond_both (b == 39) _ _ (IsWithin (1 + length bs)) (λ _. quoted-within Quoted 39 bs)
    (λ _. cond_both (b == 34) _ _ (IsWithin (1 + length bs)) (λ _. quoted-within Distinct 34 bs)
    (λ _. cond_both (b == 36) _ _ (IsWithin (1 + length bs)) (λ _. dollar-within bs)
    (λ _. cond_both (b == 33) _ _ (IsWithin (1 + length bs)) (λ _. bang-within bs)
    (λ _. cond_both (is_visible b) (Lexeme (Punct b) 1) (Fault BadByte 0) (IsWithin (1 + length bs)) (λ _. (omega arith, omega arith)) (λ _. omega arith)))))))

from-within : (b : ℕ) (bs : List ℕ) → IsWithin (1 + length bs) (piece_from b bs)
unfolding piece_from
from-within b bs =
    cond_both (is_white b) _ _ (IsWithin (1 + length bs)) (λ _. (omega arith, omega arith))
    (λ _. cond_both (is_lower_letter b) _ _ (IsWithin (1 + length bs)) (λ _. (omega arith, omega (arith, word_len-le bs)))
    (λ _. cond_both (is_upper_letter b) _ _ (IsWithin (1 + length bs)) (λ _. (omega arith, omega (arith, word_len-le bs)))
    (λ _. cond_both (starts_number b bs) _ _ (IsWithin (1 + length bs)) (λ _. (omega arith, omega (arith, number_rest_len-le bs)))
    (λ _. mark-within b bs))))

-- the piece at the front of a text is within it
pub piece-within : (bytes : List ℕ) → IsWithin (length bytes) (piece_of bytes)
piece-within [] = tt
piece-within (b ∷ bs) = let size : 1 + length bs ≡ suc (length bs) = omega arith in rw (← size) (from-within b bs)
