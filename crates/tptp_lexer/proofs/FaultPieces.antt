-- A piece that is a fault stands where the table says.
use Rattle.std.proofs.Common.{◌≡◌, ◌⊎◌, inl, inr, ℕ, ◌+◌, true, false, ◌==◌, List, [], ◌∷◌, length, take, drop, Option, Some, None, refl, ap, ◌∙◌}
use Rattle.std.proofs.lemmas.Bool.{eqb-true, cond_both}
use Rattle.ascii_text.specs.Bytes.{is_white, is_lower_letter, is_upper_letter, is_visible, is_printable, begins}
use Rattle.tptp_lexer.specs.Comments.{before_close}
use Rattle.tptp_lexer.specs.Quotes.{before_quote, first_flaw}
use Rattle.tptp_lexer.specs.Numbers.{starts_number}
use Rattle.tptp_lexer.specs.Pieces.{block_piece, slash_piece, closed_piece, quoted_piece_by, quoted_piece, name_len, named_piece, dollar_piece, bang_piece, mark_piece, piece_from, piece_of}
use Rattle.tptp_lexer.specs.Forms.{bytes_of}
use Rattle.tptp_lexer.specs.Faults.{IsClosed, StandsInside, FaultStands}
use Rattle.tptp_lexer.specs.declared.piece.Flaw.{Flaw}
use Rattle.tptp_lexer.specs.declared.piece.Piece.{Piece}
use Rattle.tptp_lexer.specs.declared.piece.Piece.TheVariants.{Blank, Lexeme, Fault, End}
use Rattle.tptp_lexer.specs.declared.token.TokenKind.{TokenKind}
use Rattle.tptp_lexer.specs.declared.token.TokenKind.TheVariants.{Quoted, Distinct, Dollar, NotEqual, Punct}
use Rattle.tptp_lexer.specs.declared.token.LexKind.{LexKind}
use Rattle.tptp_lexer.specs.declared.token.LexKind.TheVariants.{BadByte, OpenQuote, BadEscape, OpenComment}
use Rattle.tptp_lexer.proofs.QuoteForms.{IsQuoteMark, single, double, closed-before_quote}
use Rattle.tptp_lexer.proofs.CommentForms.{before_close-none}
use Rattle.tptp_lexer.proofs.FaultForms.{flaw-form, before_quote-closed}
use Rattle.tptp_lexer.proofs.PieceBounds.{printable-quotes}

-- where the piece is a fault, it stands there
abbrev pub IsFaulty : List ℕ → Piece → Type 0
IsFaulty bytes (Fault kind n) = FaultStands kind bytes n
IsFaulty bytes (Blank n) = Unit {0}
IsFaulty bytes (Lexeme kind n) = Unit {0}
IsFaulty bytes End = Unit {0}

block-faulty : (b c : ℕ) (bs : List ℕ) (found : Option ℕ) → b ≡ 47 → c ≡ 42 → before_close bs ≡ found → IsFaulty (b ∷ c ∷ bs) (block_piece found)
block-faulty b c bs None p q e = (refl, bs, before_close-none bs e, rw (p, q) refl)
block-faulty b c bs (Some n) p q e = tt

slash-faulty : (b : ℕ) (bs : List ℕ) → b ≡ 47 → IsFaulty (b ∷ bs) (slash_piece bs)
unfolding slash_piece
slash-faulty b [] is = tt
slash-faulty b (c ∷ bs) is =
    cond_both (c == 42) (block_piece (before_close bs)) (Lexeme (Punct 47) 1) (IsFaulty (b ∷ c ∷ bs)) (λ e. block-faulty b c bs (before_close bs) is (eqb-true c 42 e) refl) (λ _. tt)

-- a quote, and what is known of it
pub record IsQuote (quote : ℕ) : Type 0 where
  pub mark : IsQuoteMark quote
  pub prints : is_printable quote ≡ true
  pub one_of : (quote ≡ 39) ⊎ (quote ≡ 34)

quote_single : IsQuote 39
quote_single = record { mark = single; prints = printable-quotes.0; one_of = inl refl }

quote_double : IsQuote 34
quote_double = record { mark = double; prints = printable-quotes.1; one_of = inr refl }

-- only bad bytes and bad escapes stand inside
inside-stands : (kind : LexKind) (bytes : List ℕ) (n : ℕ) → StandsInside kind bytes n → FaultStands kind bytes n
inside-stands BadByte bytes n stands = inr stands
inside-stands BadEscape bytes n stands = stands
inside-stands OpenQuote bytes n stands = absurd stands.bad
inside-stands OpenComment bytes n stands = absurd stands.bad

closed-faulty : (kind : TokenKind) (quote b : ℕ) (bs : List ℕ) (n : ℕ) (found : Option Flaw) → IsQuote quote → b ≡ quote → before_quote quote false bs ≡ Some n → first_flaw quote false (take n bs) ≡ found
    → IsFaulty (b ∷ bs) (closed_piece kind n found)
closed-faulty kind quote b bs n None of is e f = tt
closed-faulty kind quote b bs n (Some flaw) of is e f =
    let at = flaw-form quote of.prints bs n flaw e f in
    inside-stands flaw.kind (b ∷ bs) (1 + flaw.before) (record {
      quote = quote;
      inside = bs;
      opens = record { is_quote = of.one_of; opened = ap (λ c. c ∷ bs) is };
      closed = before_quote-closed quote bs n e;
      items = at.items;
      good = at.good;
      before = ap (λ m. 1 + m) at.before;
      rest = at.rest;
      cut = at.cut;
      bad = at.bad;
    })

not-closed : (quote : ℕ) (bytes : List ℕ) → IsQuoteMark quote → before_quote quote false bytes ≡ None → IsClosed quote bytes → ⊥
not-closed quote bytes mark e (items, rest, pairs, is) =
    let found : before_quote quote false bytes ≡ Some (length (bytes_of items)) = ap (before_quote quote false) is ∙ closed-before_quote quote items rest mark pairs in
    cc

quoted_by-faulty : (kind : TokenKind) (quote b : ℕ) (bs : List ℕ) (found : Option ℕ) → IsQuote quote → b ≡ quote → before_quote quote false bs ≡ found → IsFaulty (b ∷ bs) (quoted_piece_by kind quote bs found)
quoted_by-faulty kind quote b bs None of is e =
    (refl, quote, bs, record { is_quote = of.one_of; opened = ap (λ c. c ∷ bs) is }, not-closed quote bs of.mark e)
quoted_by-faulty kind quote b bs (Some n) of is e = closed-faulty kind quote b bs n (first_flaw quote false (take n bs)) of is e refl

quoted-faulty : (kind : TokenKind) (quote b : ℕ) (bs : List ℕ) → IsQuote quote → b ≡ quote → IsFaulty (b ∷ bs) (quoted_piece kind quote bs)
unfolding quoted_piece
quoted-faulty kind quote b bs of is = quoted_by-faulty kind quote b bs (before_quote quote false bs) of is refl

named-faulty : (bytes : List ℕ) (marks name : ℕ) → IsFaulty bytes (named_piece marks name)
named-faulty bytes marks name = cond_both (name == 0) (Lexeme (Punct 36) 1) (Lexeme Dollar (marks + name)) (IsFaulty bytes) (λ _. tt) (λ _. tt)

dollar-faulty : (bytes bs : List ℕ) → IsFaulty bytes (dollar_piece bs)
unfolding dollar_piece
dollar-faulty bytes bs =
    cond_both (begins (λ b. b == 36) bs) (named_piece 2 (name_len (drop 1 bs))) (named_piece 1 (name_len bs)) (IsFaulty bytes)
    (λ _. named-faulty bytes 2 (name_len (drop 1 bs))) (λ _. named-faulty bytes 1 (name_len bs))

bang-faulty : (bytes bs : List ℕ) → IsFaulty bytes (bang_piece bs)
unfolding bang_piece
bang-faulty bytes bs = cond_both (begins (λ b. b == 61) bs) (Lexeme NotEqual 2) (Lexeme (Punct 33) 1) (IsFaulty bytes) (λ _. tt) (λ _. tt)

mark-faulty : (b : ℕ) (bs : List ℕ) → is_white b ≡ false → IsFaulty (b ∷ bs) (mark_piece b bs)
unfolding mark_piece
mark-faulty b bs w =
    cond_both (b == 37) _ _ (IsFaulty (b ∷ bs)) (λ _. tt)
    (λ _. cond_both (b == 47) _ _ (IsFaulty (b ∷ bs)) (λ e. slash-faulty b bs (eqb-true b 47 e))
    (λ _. cond_both (b == 39) _ _ (IsFaulty (b ∷ bs)) (λ e. quoted-faulty Quoted 39 b bs quote_single (eqb-true b 39 e))
    (λ _. cond_both (b == 34) _ _ (IsFaulty (b ∷ bs)) (λ e. quoted-faulty Distinct 34 b bs quote_double (eqb-true b 34 e))
    (λ _. cond_both (b == 36) _ _ (IsFaulty (b ∷ bs)) (λ _. dollar-faulty (b ∷ bs) bs)
    (λ _. cond_both (b == 33) _ _ (IsFaulty (b ∷ bs)) (λ _. bang-faulty (b ∷ bs) bs)
    (λ _. cond_both (is_visible b) (Lexeme (Punct b) 1) (Fault BadByte 0) (IsFaulty (b ∷ bs)) (λ _. tt) (λ v. inl (refl, (b, bs, w, v, refl)))))))))

from-faulty : (b : ℕ) (bs : List ℕ) → IsFaulty (b ∷ bs) (piece_from b bs)
unfolding piece_from
from-faulty b bs =
    cond_both (is_white b) _ _ (IsFaulty (b ∷ bs)) (λ _. tt)
    (λ w. cond_both (is_lower_letter b) _ _ (IsFaulty (b ∷ bs)) (λ _. tt)
    (λ _. cond_both (is_upper_letter b) _ _ (IsFaulty (b ∷ bs)) (λ _. tt)
    (λ _. cond_both (starts_number b bs) _ _ (IsFaulty (b ∷ bs)) (λ _. tt) (λ _. mark-faulty b bs w))))

-- where the piece at the front is a fault, the fault stands there
pub piece-faulty : (bytes : List ℕ) → IsFaulty bytes (piece_of bytes)
piece-faulty [] = tt
piece-faulty (b ∷ bs) = from-faulty b bs
