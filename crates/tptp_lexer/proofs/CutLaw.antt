-- The tokens of a text cut it.
use Rattle.std.proofs.Common.{◌≡◌, ◌≢◌, inl, inr, true, ℕ, zero, suc, ◌+◌, ◌≤◌, ◌<◌, List, [], ◌∷◌, ◌++◌, length, take, drop, Option, Some, None, refl, ap, sym, subst, ◌∙◌, arith, append_assoc, length-append, length-take, length-drop}
use Rattle.std.proofs.lemmas.List.{take-append-drop, append-nil, nil_from_length}
use Rattle.ascii_text.specs.Bytes.{is_white}
use Rattle.tptp_lexer.specs.Comments.{line_len, before_close}
use Rattle.tptp_lexer.specs.Pieces.{block_piece, slash_piece, piece_from, piece_of}
use Rattle.tptp_lexer.specs.Spots.{passed, first_spot}
use Rattle.tptp_lexer.specs.Tokens.{Lexed, token_of, lexed_from, tokens_of}
use Rattle.tptp_lexer.specs.Forms.{HasForm}
use Rattle.tptp_lexer.specs.Cuts.{HoldsClose, IsBlank, IsGap, NoBlank, NoOpening, NoToken, IsLongest, IsNext, IsStuck, EndsBy, IsCut}
use Rattle.tptp_lexer.specs.declared.piece.Piece.{Piece}
use Rattle.tptp_lexer.specs.declared.piece.Piece.TheVariants.{Blank, Lexeme, Fault, End}
use Rattle.tptp_lexer.specs.declared.spot.Spot.{Spot}
use Rattle.tptp_lexer.specs.declared.token.Token.{Token}
use Rattle.tptp_lexer.specs.declared.token.TokenKind.{TokenKind}
use Rattle.tptp_lexer.specs.declared.token.TokenKind.TheVariants.{Lower, Upper, Quoted, Distinct, Dollar, Number, NotEqual, Punct}
use Rattle.tptp_lexer.specs.declared.token.LexKind.{LexKind}
use Rattle.tptp_lexer.specs.declared.token.LexKind.TheVariants.{BadByte, OpenQuote, BadEscape, OpenComment}
use Rattle.tptp_lexer.specs.declared.token.LexFault.{LexFault}
use Rattle.tptp_lexer.proofs.Within.{IsWithin, piece-within}
use Rattle.tptp_lexer.proofs.Places.{passed-behind}
use Rattle.tptp_lexer.proofs.Lexing.{behind, lexed_from-blank, lexed_from-lexeme, lexed_from-fault, lexed_from-end}
use Rattle.tptp_lexer.proofs.CommentForms.{before_close-none}
use Rattle.tptp_lexer.proofs.NumberBounds.{number-led}
use Rattle.tptp_lexer.proofs.PlainForms.{plain-form}
use Rattle.tptp_lexer.proofs.PieceForms.{IsRight, piece-right}
use Rattle.tptp_lexer.proofs.PieceBounds.{IsAtLeast, form-bound, piece-percent, piece-slash}

-- the piece is white space or a comment
abbrev IsBlankPiece : Piece → Type 0
IsBlankPiece piece = (n : ℕ) × (piece ≡ Blank n)

white-piece : (b : ℕ) (bs : List ℕ) → is_white b ≡ true → IsBlankPiece (piece_from b bs)
unfolding piece_from
white-piece b bs e = (1, rw e refl)

block-piece : (bytes : List ℕ) → HoldsClose bytes → (found : Option ℕ) → before_close bytes ≡ found → IsBlankPiece (block_piece found)
block-piece bytes holds None e = absurd (before_close-none bytes e holds)
block-piece bytes holds (Some n) e = (4 + n, refl)

slash-blank : (bytes : List ℕ) → HoldsClose bytes → IsBlankPiece (slash_piece (42 ∷ bytes))
unfolding slash_piece
slash-blank bytes holds = block-piece bytes holds (before_close bytes) refl

blank-piece : (front rest : List ℕ) → IsBlank front rest → IsBlankPiece (piece_of (front ++ rest))
blank-piece front rest (inl (b, white, is)) = subst (λ f. IsBlankPiece (piece_of (f ++ rest))) (sym is) (white-piece b rest white)
blank-piece front rest (inr (inl (comment, ends))) =
    subst (λ f. IsBlankPiece (piece_of (f ++ rest))) (sym comment.2) (1 + line_len (comment.0 ++ rest), piece-percent (comment.0 ++ rest))
blank-piece front rest (inr (inr (inside, first, is))) =
    let bytes = (inside ++ 42 ∷ 47 ∷ []) ++ rest in
    let holds : HoldsClose bytes = (inside, rest, append_assoc inside (42 ∷ 47 ∷ []) rest) in
    subst (λ f. IsBlankPiece (piece_of (f ++ rest))) (sym is) (subst IsBlankPiece (sym (piece-slash (42 ∷ bytes))) (slash-blank bytes holds))

solid-lexeme : (bytes : List ℕ) (kind : TokenKind) (n : ℕ) → piece_of bytes ≡ Lexeme kind n → NoBlank bytes
solid-lexeme bytes kind n piece front rest e blank =
    let found = blank-piece front rest blank in
    let other : piece_of bytes ≡ Blank found.0 = ap piece_of e ∙ found.1 in
    cc

solid-fault : (bytes : List ℕ) (kind : LexKind) (n : ℕ) → piece_of bytes ≡ Fault kind n → NoBlank bytes
solid-fault bytes kind n piece front rest e blank =
    let found = blank-piece front rest blank in
    let other : piece_of bytes ≡ Blank found.0 = ap piece_of e ∙ found.1 in
    cc

longest-lexeme : (bytes : List ℕ) (kind : TokenKind) (n : ℕ) → piece_of bytes ≡ Lexeme kind n → IsLongest (take n bytes) (drop n bytes)
longest-lexeme bytes kind n piece more rest e some token =
    let within = subst (IsWithin (length bytes)) piece (piece-within bytes) in
    let whole : (take n bytes ++ more) ++ rest ≡ bytes = append_assoc (take n bytes) more rest ∙ ap (λ l. take n bytes ++ l) (sym e) ∙ take-append-drop n bytes in
    let bound = subst (IsAtLeast (length (take n bytes ++ more))) (ap piece_of whole ∙ piece) (form-bound token.0 (take n bytes ++ more) rest token.1) in
    some (nil_from_length more (omega (arith, bound, within.1, length-append (take n bytes) more, length-take n bytes)))

-- each token has at least one byte of its own
pub form-some : (kind : TokenKind) (text : List ℕ) → HasForm kind text → 0 < length text
form-some Lower [] form = absurd form
form-some Lower (b ∷ bs) form = omega arith
form-some Upper [] form = absurd form
form-some Upper (b ∷ bs) form = omega arith
form-some Quoted text form = omega (arith, ap length form.2)
form-some Distinct text form = omega (arith, ap length form.2)
form-some Dollar text (name, form, inl is) = omega (arith, ap length is)
form-some Dollar text (name, form, inr is) = omega (arith, ap length is)
form-some Number text form = let led = number-led text [] form in omega (arith, ap length led.is)
form-some NotEqual text form = omega (arith, ap length form)
form-some (Punct b) text form = omega (arith, ap length form.0)

block-solid : (found : Option ℕ) (kind : TokenKind) (n : ℕ) → block_piece found ≡ Lexeme kind n → ⊥
block-solid None kind n e = cc
block-solid (Some m) kind n e = cc

slash-block : (inside : List ℕ) → slash_piece (42 ∷ inside) ≡ block_piece (before_close inside)
unfolding slash_piece
slash-block inside = refl

-- where a token begins no comment opens
lexeme-no_opening : (bytes : List ℕ) (kind : TokenKind) (n : ℕ) → piece_of bytes ≡ Lexeme kind n → NoOpening bytes
lexeme-no_opening bytes kind n piece inside e =
    block-solid (before_close inside) kind n (sym (piece-slash (42 ∷ inside) ∙ slash-block inside) ∙ sym (ap piece_of e) ∙ piece)

lexeme-next : (bytes : List ℕ) (spot : Spot) (kind : TokenKind) (n : ℕ) → piece_of bytes ≡ Lexeme kind n → IsNext spot.offset bytes (token_of spot kind (take n bytes)) (drop n bytes)
lexeme-next bytes spot kind n piece = record {
  gap = [];
  text = take n bytes;
  cut = sym (take-append-drop n bytes);
  passed_over = ([], tt, refl);
  start = omega arith;
  stop = omega arith;
  form = subst (IsRight bytes) piece (piece-right bytes);
  longest = longest-lexeme bytes kind n piece;
  no_blank = subst NoBlank (sym (take-append-drop n bytes)) (solid-lexeme bytes kind n piece);
  no_opening = subst NoOpening (sym (take-append-drop n bytes)) (lexeme-no_opening bytes kind n piece);
  plain = plain-form kind (take n bytes) (form-some kind (take n bytes) (subst (IsRight bytes) piece (piece-right bytes)));
}

-- a gap goes on with one more white space or comment before it
pub gap-more : (text gap after : List ℕ) → IsBlank text (gap ++ after) → IsGap gap after → IsGap (text ++ gap) after
gap-more text gap after blank (texts, blanks, is) = (text ∷ texts, (subst (λ g. IsBlank text (g ++ after)) is blank, blanks), ap (λ g. text ++ g) is)

next-blank : (offset : ℕ) (text rest : List ℕ) (token : Token) (after : List ℕ) → IsBlank text rest → IsNext (offset + length text) rest token after → IsNext offset (text ++ rest) token after
next-blank offset text rest token after blank next = record {
  gap = text ++ next.gap;
  text = next.text;
  cut = ap (λ l. text ++ l) next.cut ∙ sym (append_assoc text next.gap (next.text ++ after));
  passed_over = gap-more text next.gap (next.text ++ after) (subst (IsBlank text) next.cut blank) next.passed_over;
  start = omega (arith, next.start, length-append text next.gap);
  stop = omega (arith, next.stop, length-append text next.gap);
  form = next.form;
  longest = next.longest;
  no_blank = next.no_blank;
  no_opening = next.no_opening;
  plain = next.plain;
}

ends-blank : (text rest : List ℕ) (fault : Option LexFault) → IsBlank text rest → EndsBy rest fault → EndsBy (text ++ rest) fault
ends-blank text rest None blank gap = gap-more text rest [] (subst (IsBlank text) (sym (append-nil rest)) blank) gap
ends-blank text rest (Some fault) blank (gap, after, is, passed_over, solid, stuck) =
    (text ++ gap, after, ap (λ l. text ++ l) is ∙ sym (append_assoc text gap after), gap-more text gap after (subst (IsBlank text) is blank) passed_over, solid, stuck)

cut-blank : (offset : ℕ) (text rest : List ℕ) (tokens : List Token) (fault : Option LexFault) → IsBlank text rest → IsCut (offset + length text) rest tokens fault → IsCut offset (text ++ rest) tokens fault
cut-blank offset text rest [] fault blank ends = ends-blank text rest fault blank ends
cut-blank offset text rest (token ∷ tokens) fault blank (after, next, more) = (after, next-blank offset text rest token after blank next, more)

-- the text is cut by what was read off it
abbrev pub IsCutBy : ℕ → List ℕ → Lexed → Type 0
IsCutBy offset bytes lexed = IsCut offset bytes lexed.tokens lexed.fault

some_bytes : (bytes : List ℕ) (kind : LexKind) (n : ℕ) → piece_of bytes ≡ Fault kind n → bytes ≢ []
some_bytes bytes kind n piece e = let none : piece_of bytes ≡ End = ap piece_of e in cc

no_token : (bytes : List ℕ) (kind : LexKind) (n : ℕ) → piece_of bytes ≡ Fault kind n → (IsAtLeast 0 (Fault kind n) → ⊥) → NoToken bytes
no_token bytes kind n piece none front rest e token =
    none (subst (IsAtLeast (length front)) (ap piece_of (sym e) ∙ piece) (form-bound token.0 front rest token.1))

fault-stuck : (bytes : List ℕ) (kind : LexKind) (n : ℕ) → piece_of bytes ≡ Fault kind n → IsStuck kind bytes
fault-stuck bytes OpenComment n piece = subst (IsRight bytes) piece (piece-right bytes)
fault-stuck bytes BadByte n piece = (some_bytes bytes BadByte n piece, no_token bytes BadByte n piece (λ h. h))
fault-stuck bytes OpenQuote n piece = (some_bytes bytes OpenQuote n piece, no_token bytes OpenQuote n piece (λ h. h))
fault-stuck bytes BadEscape n piece = (some_bytes bytes BadEscape n piece, no_token bytes BadEscape n piece (λ h. h))

-- what is behind the first n bytes is cut, and so is the whole
module _ (bytes : List ℕ) (spot : Spot) (n : ℕ) (some : 0 < n) (fits : n ≤ length bytes) (rest : IsCutBy (passed spot (take n bytes)).offset (drop n bytes) (behind bytes spot n)) where
  offset-behind : (passed spot (take n bytes)).offset ≡ spot.offset + length (take n bytes)
  offset-behind = (passed-behind spot (take n bytes)).offset

  blank-cut : piece_of bytes ≡ Blank n → IsCutBy spot.offset bytes (lexed_from bytes spot 0)
  blank-cut piece =
      let blank = subst (IsRight bytes) piece (piece-right bytes) in
      let there = subst (λ o. IsCutBy o (drop n bytes) (behind bytes spot n)) offset-behind rest in
      let whole = cut-blank spot.offset (take n bytes) (drop n bytes) (behind bytes spot n).tokens (behind bytes spot n).fault blank there in
      subst (IsCutBy spot.offset bytes) (sym (lexed_from-blank bytes spot n piece some fits))
      (subst (λ l. IsCutBy spot.offset l (behind bytes spot n)) (take-append-drop n bytes) whole)

  lexeme-cut : (kind : TokenKind) → piece_of bytes ≡ Lexeme kind n → IsCutBy spot.offset bytes (lexed_from bytes spot 0)
  lexeme-cut kind piece =
      let there = subst (λ o. IsCutBy o (drop n bytes) (behind bytes spot n)) offset-behind rest in
      subst (IsCutBy spot.offset bytes) (sym (lexed_from-lexeme bytes spot kind n piece some fits)) (drop n bytes, lexeme-next bytes spot kind n piece, there)

fault-cut : (bytes : List ℕ) (spot : Spot) (kind : LexKind) (n : ℕ) → piece_of bytes ≡ Fault kind n → IsCutBy spot.offset bytes (lexed_from bytes spot 0)
fault-cut bytes spot kind n piece =
    subst (IsCutBy spot.offset bytes) (sym (lexed_from-fault bytes spot kind n piece))
    ([], bytes, refl, ([], tt, refl), solid-fault bytes kind n piece, fault-stuck bytes kind n piece)

end-cut : (bytes : List ℕ) (spot : Spot) → piece_of bytes ≡ End → IsCutBy spot.offset bytes (lexed_from bytes spot 0)
end-cut bytes spot piece =
    let none : bytes ≡ [] = subst (IsRight bytes) piece (piece-right bytes) in
    subst (IsCutBy spot.offset bytes) (sym (lexed_from-end bytes spot piece)) ([], tt, none)

-- a text of at most this size is cut by what is read off it, from any place on
pub cut-within : (size : ℕ) (bytes : List ℕ) (spot : Spot) → length bytes ≤ size → IsCutBy spot.offset bytes (lexed_from bytes spot 0)
cut-within zero [] spot le = end-cut [] spot refl
cut-within zero (b ∷ bs) spot le = absurd (omega arith)
cut-within (suc size) bytes spot le =
    by (piece_of bytes) refl (piece-within bytes) (λ n le. cut-within size (drop n bytes) (passed spot (take n bytes)) le)
  where
    by : (piece : Piece) → piece_of bytes ≡ piece → IsWithin (length bytes) piece
        → ((n : ℕ) → length (drop n bytes) ≤ size → IsCutBy (passed spot (take n bytes)).offset (drop n bytes) (behind bytes spot n))
        → IsCutBy spot.offset bytes (lexed_from bytes spot 0)
    by (Blank n) piece within rest = blank-cut bytes spot n within.0 within.1 (rest n (omega (arith, length-drop n bytes, within.0))) piece
    by (Lexeme kind n) piece within rest = lexeme-cut bytes spot n within.0 within.1 (rest n (omega (arith, length-drop n bytes, within.0))) kind piece
    by (Fault kind n) piece within rest = fault-cut bytes spot kind n piece
    by End piece within rest = end-cut bytes spot piece

-- a text is cut by its tokens
pub tokens-cut : (bytes : List ℕ) → IsCutBy 0 bytes (tokens_of bytes)
tokens-cut bytes = cut-within (length bytes) bytes first_spot (omega arith)

cut-few : (offset : ℕ) (bytes : List ℕ) (tokens : List Token) (fault : Option LexFault) → IsCut offset bytes tokens fault → length tokens ≤ length bytes
cut-few offset bytes [] fault cut = omega arith
cut-few offset bytes (token ∷ tokens) fault (after, next, more) =
    let some = form-some token.kind next.text next.form in
    let size : length bytes ≡ length next.gap + (length next.text + length after) =
    ap length next.cut ∙ length-append next.gap (next.text ++ after) ∙ ap (λ n. length next.gap + n) (length-append next.text after) in
    omega (arith, some, size, cut-few token.end after tokens fault more)

-- from any place on there are no more tokens than bytes
pub left-few : (bytes : List ℕ) (spot : Spot) → length (lexed_from bytes spot 0).tokens ≤ length bytes
left-few bytes spot = cut-few spot.offset bytes (lexed_from bytes spot 0).tokens (lexed_from bytes spot 0).fault (cut-within (length bytes) bytes spot (omega arith))

-- a text has no more tokens than bytes
pub tokens-few : (bytes : List ℕ) → length (tokens_of bytes).tokens ≤ length bytes
tokens-few bytes = left-few bytes first_spot
