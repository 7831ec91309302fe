-- Each piece has its form.
use Rattle.std.proofs.Common.{◌≡◌, inl, inr, ℕ, suc, ◌+◌, Bool, true, false, cond, ◌==◌, ◌&&◌, List, [], ◌∷◌, take, drop, Option, Some, None, refl, ap, arith}
use Rattle.std.specs.List.{prefix_len}
use Rattle.std.proofs.lemmas.Bool.{or_parts, eqb-true, cond_both}
use Rattle.ascii_text.specs.Bytes.{is_white, is_lower_letter, is_upper_letter, is_digit, is_word_byte, is_in_line, is_visible, begins}
use Rattle.tptp_lexer.specs.Numbers.{is_sign}
use Rattle.tptp_lexer.specs.Comments.{line_len, before_close}
use Rattle.tptp_lexer.specs.Quotes.{before_quote, first_flaw}
use Rattle.tptp_lexer.specs.Numbers.{starts_number}
use Rattle.tptp_lexer.specs.Pieces.{block_piece, slash_piece, closed_piece, quoted_piece_by, quoted_piece, name_len, named_piece, dollar_piece, bang_piece, mark_piece, piece_from, piece_of}
use Rattle.tptp_lexer.specs.Forms.{IsWordOf, IsLower, IsQuotedBy, is_mark, HasForm}
use Rattle.tptp_lexer.specs.Cuts.{HoldsClose, IsBlank}
use Rattle.tptp_lexer.specs.declared.piece.Flaw.{Flaw}
use Rattle.tptp_lexer.specs.declared.piece.Piece.{Piece}
use Rattle.tptp_lexer.specs.declared.piece.Piece.TheVariants.{Blank, Lexeme, Fault, End}
use Rattle.tptp_lexer.specs.declared.token.TokenKind.{TokenKind}
use Rattle.tptp_lexer.specs.declared.token.TokenKind.TheVariants.{Quoted, Distinct, Dollar, NotEqual, Punct}
use Rattle.tptp_lexer.specs.declared.token.LexKind.{LexKind}
use Rattle.tptp_lexer.specs.declared.token.LexKind.TheVariants.{BadByte, OpenQuote, BadEscape, OpenComment}
use Rattle.tptp_lexer.proofs.Runs.{each-run}
use Rattle.tptp_lexer.proofs.NumberForms.{number-form}
use Rattle.tptp_lexer.proofs.QuoteForms.{inside-form, first_flaw-kind}
use Rattle.tptp_lexer.proofs.CommentForms.{line-ends, before_close-first, before_close-none}

-- an open comment is one
abbrev pub IsOpen : LexKind → List ℕ → Type 0
IsOpen OpenComment bytes = (inside : List ℕ) × (HoldsClose inside → ⊥) × (bytes ≡ 47 ∷ 42 ∷ inside)
IsOpen BadByte bytes = Unit {0}
IsOpen OpenQuote bytes = Unit {0}
IsOpen BadEscape bytes = Unit {0}

-- the piece at the front of these bytes has its form
abbrev pub IsRight : List ℕ → Piece → Type 0
IsRight bytes (Blank n) = IsBlank (take n bytes) (drop n bytes)
IsRight bytes (Lexeme kind n) = HasForm kind (take n bytes)
IsRight bytes (Fault kind n) = IsOpen kind bytes
IsRight bytes End = bytes ≡ []

-- a single byte that may stand alone
pub mark-right : (b : ℕ) (bs : List ℕ) (mark : ℕ) → b ≡ mark → is_mark mark ≡ true → IsRight (b ∷ bs) (Lexeme (Punct mark) 1)
mark-right b bs mark is good = (ap (λ c. c ∷ []) is, good)

block-right : (b c : ℕ) (bs : List ℕ) (found : Option ℕ) → b ≡ 47 → c ≡ 42 → before_close bs ≡ found → IsRight (b ∷ c ∷ bs) (block_piece found)
block-right b c bs None p q e = (bs, before_close-none bs e, rw (p, q) refl)
block-right b c bs (Some n) p q e =
    let close = before_close-first bs n e in
    let size : 4 + n ≡ suc (suc (2 + n)) = omega arith in
    rw size (inr (inr (take n bs, close.first, rw (p, q, close.closed) refl)))

slash-right : (b : ℕ) (bs : List ℕ) → b ≡ 47 → IsRight (b ∷ bs) (slash_piece bs)
unfolding slash_piece is_mark
slash-right b [] is = mark-right b [] 47 is refl
slash-right b (c ∷ bs) is =
    cond_both (c == 42) (block_piece (before_close bs)) (Lexeme (Punct 47) 1) (IsRight (b ∷ c ∷ bs))
    (λ e. block-right b c bs (before_close bs) is (eqb-true c 42 e) refl) (λ _. mark-right b (c ∷ bs) 47 is refl)

-- a form between these quotes, of this kind
closed-right : (kind : TokenKind) (quote b : ℕ) (bs : List ℕ) (n : ℕ) (found : Option Flaw) → ((text : List ℕ) → IsQuotedBy quote text → HasForm kind text) → b ≡ quote
    → before_quote quote false bs ≡ Some n → first_flaw quote false (take n bs) ≡ found → IsRight (b ∷ bs) (closed_piece kind n found)
closed-right kind quote b bs n (Some flaw) has is e f = first_flaw-kind (λ k. IsOpen k (b ∷ bs)) tt tt quote false (take n bs) flaw f
closed-right kind quote b bs n None has is e f =
    let inside = inside-form quote bs n e f in
    let size : 2 + n ≡ suc (suc n) = omega arith in
    rw size (has (b ∷ take (suc n) bs) (inside.items, inside.good, rw (is, inside.closed) refl))

quoted_by-right : (kind : TokenKind) (quote b : ℕ) (bs : List ℕ) (found : Option ℕ) → ((text : List ℕ) → IsQuotedBy quote text → HasForm kind text) → b ≡ quote
    → before_quote quote false bs ≡ found → IsRight (b ∷ bs) (quoted_piece_by kind quote bs found)
quoted_by-right kind quote b bs None has is e = tt
quoted_by-right kind quote b bs (Some n) has is e = closed-right kind quote b bs n (first_flaw quote false (take n bs)) has is e refl

quoted-right : (kind : TokenKind) (quote b : ℕ) (bs : List ℕ) → ((text : List ℕ) → IsQuotedBy quote text → HasForm kind text) → b ≡ quote → IsRight (b ∷ bs) (quoted_piece kind quote bs)
unfolding quoted_piece
quoted-right kind quote b bs has is = quoted_by-right kind quote b bs (before_quote quote false bs) has is refl

-- a word behind its first byte
pub word-form : (first : ℕ → Bool) (b : ℕ) (bs : List ℕ) → first b ≡ true → IsWordOf first (take (1 + prefix_len is_word_byte bs) (b ∷ bs))
word-form first b bs e = let next : 1 + prefix_len is_word_byte bs ≡ suc (prefix_len is_word_byte bs) = omega arith in rw next (e, each-run is_word_byte bs)

name-form : (bytes : List ℕ) → (name_len bytes == 0 ≡ false) → IsLower (take (name_len bytes) bytes)
name-form [] e = cc
name-form (b ∷ bs) e = by (is_lower_letter b) refl e
  where
    by : (t : Bool) → is_lower_letter b ≡ t → (cond t (1 + prefix_len is_word_byte bs) 0 == 0 ≡ false) → IsLower (take (cond t (1 + prefix_len is_word_byte bs) 0) (b ∷ bs))
    by true is e = word-form is_lower_letter b bs is
    by false is e = cc

dollar-alone : (b : ℕ) (bs : List ℕ) → b ≡ 36 → IsRight (b ∷ bs) (Lexeme (Punct 36) 1)
unfolding is_mark
dollar-alone b bs is = mark-right b bs 36 is refl

dollar-one : (b : ℕ) (bs : List ℕ) → b ≡ 36 → IsRight (b ∷ bs) (named_piece 1 (name_len bs))
dollar-one b bs is =
    cond_both (name_len bs == 0) (Lexeme (Punct 36) 1) (Lexeme Dollar (1 + name_len bs)) (IsRight (b ∷ bs)) (λ _. dollar-alone b bs is)
    (λ e. let next : 1 + name_len bs ≡ suc (name_len bs) = omega arith in rw next (take (name_len bs) bs, name-form bs e, inl (ap (λ c. c ∷ take (name_len bs) bs) is)))

dollar-two : (b : ℕ) (bs : List ℕ) → b ≡ 36 → begins (λ c. c == 36) bs ≡ true → IsRight (b ∷ bs) (named_piece 2 (name_len (drop 1 bs)))
dollar-two b [] is e = cc
dollar-two b (c ∷ bs) is e =
    cond_both (name_len bs == 0) (Lexeme (Punct 36) 1) (Lexeme Dollar (2 + name_len bs)) (IsRight (b ∷ c ∷ bs)) (λ _. dollar-alone b (c ∷ bs) is)
    (λ f.
    let next : 2 + name_len bs ≡ suc (suc (name_len bs)) = omega arith in
    let same : c ≡ 36 = eqb-true c 36 e in
    rw next (take (name_len bs) bs, name-form bs f, inr (rw (is, same) refl)))

dollar-right : (b : ℕ) (bs : List ℕ) → b ≡ 36 → IsRight (b ∷ bs) (dollar_piece bs)
unfolding dollar_piece
dollar-right b bs is =
    cond_both (begins (λ c. c == 36) bs) (named_piece 2 (name_len (drop 1 bs))) (named_piece 1 (name_len bs)) (IsRight (b ∷ bs)) (dollar-two b bs is) (λ _. dollar-one b bs is)

bang-two : (b : ℕ) (bs : List ℕ) → b ≡ 33 → begins (λ c. c == 61) bs ≡ true → IsRight (b ∷ bs) (Lexeme NotEqual 2)
bang-two b [] is e = cc
bang-two b (c ∷ bs) is e = let same : c ≡ 61 = eqb-true c 61 e in rw (is, same) refl

bang-right : (b : ℕ) (bs : List ℕ) → b ≡ 33 → IsRight (b ∷ bs) (bang_piece bs)
unfolding bang_piece is_mark
bang-right b bs is =
    cond_both (begins (λ c. c == 61) bs) (Lexeme NotEqual 2) (Lexeme (Punct 33) 1) (IsRight (b ∷ bs)) (bang-two b bs is) (λ _. mark-right b bs 33 is refl)

line-right : (b : ℕ) (bs : List ℕ) → b ≡ 37 → IsRight (b ∷ bs) (Blank (1 + line_len bs))
line-right b bs is =
    let next : 1 + line_len bs ≡ suc (line_len bs) = omega arith in
    rw next (inr (inl ((take (line_len bs) bs, each-run is_in_line bs, ap (λ c. c ∷ take (line_len bs) bs) is), line-ends bs)))

-- a visible byte that is none of these may stand alone
mark_from : (b : ℕ) → is_visible b ≡ true → is_lower_letter b ≡ false → is_upper_letter b ≡ false → is_digit b ≡ false → b == 34 ≡ false → b == 37 ≡ false → b == 39 ≡ false → is_mark b ≡ true
unfolding is_mark
mark_from b v l u d p q r = rw (v, l, u, d, p, q, r) refl

other-right : (b : ℕ) (bs : List ℕ) → is_lower_letter b ≡ false → is_upper_letter b ≡ false → is_digit b ≡ false → IsRight (b ∷ bs) (mark_piece b bs)
unfolding mark_piece
other-right b bs l u d =
    cond_both (b == 37) _ _ (IsRight (b ∷ bs)) (λ e. line-right b bs (eqb-true b 37 e))
    (λ p. cond_both (b == 47) _ _ (IsRight (b ∷ bs)) (λ e. slash-right b bs (eqb-true b 47 e))
    (λ _. cond_both (b == 39) _ _ (IsRight (b ∷ bs)) (λ e. quoted-right Quoted 39 b bs (λ text form. form) (eqb-true b 39 e))
    (λ q. cond_both (b == 34) _ _ (IsRight (b ∷ bs)) (λ e. quoted-right Distinct 34 b bs (λ text form. form) (eqb-true b 34 e))
    (λ r. cond_both (b == 36) _ _ (IsRight (b ∷ bs)) (λ e. dollar-right b bs (eqb-true b 36 e))
    (λ _. cond_both (b == 33) _ _ (IsRight (b ∷ bs)) (λ e. bang-right b bs (eqb-true b 33 e))
    (λ _. cond_both (is_visible b) (Lexeme (Punct b) 1) (Fault BadByte 0) (IsRight (b ∷ bs)) (λ v. mark-right b bs b refl (mark_from b v l u d r p q)) (λ _. tt)))))))

from-right : (b : ℕ) (bs : List ℕ) → IsRight (b ∷ bs) (piece_from b bs)
unfolding piece_from
from-right b bs =
    cond_both (is_white b) _ _ (IsRight (b ∷ bs)) (λ e. inl (b, e, refl))
    (λ _. cond_both (is_lower_letter b) _ _ (IsRight (b ∷ bs)) (λ e. word-form is_lower_letter b bs e)
    (λ l. cond_both (is_upper_letter b) _ _ (IsRight (b ∷ bs)) (λ e. word-form is_upper_letter b bs e)
    (λ u. cond_both (starts_number b bs) _ _ (IsRight (b ∷ bs)) (λ e. number-form b bs e)
    (λ n. other-right b bs l u (or_parts (is_digit b) (is_sign b && begins is_digit bs) n).0))))

-- the piece at the front of a text has its form
pub piece-right : (bytes : List ℕ) → IsRight bytes (piece_of bytes)
piece-right [] = refl
piece-right (b ∷ bs) = from-right b bs
