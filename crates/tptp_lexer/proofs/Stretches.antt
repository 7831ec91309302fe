-- A piece at a place of a text, and what is left behind it.
use Rattle.std.proofs.Common.{◌≡◌, ℕ, ◌+◌, ◌-◌, ◌≤◌, Some, None, List, [], length, take, drop, ap, sym, subst, ◌∙◌, arith, length-take, length-drop}
use Rattle.std.proofs.lemmas.List.{drop-drop}
use Rattle.tptp_lexer.specs.Pieces.{piece_of}
use Rattle.tptp_lexer.specs.Spots.{first_spot, passed, spot_at, IsPlace}
use Rattle.tptp_lexer.specs.Tokens.{token_of, preceded_by, fault_at, lexed_from, lexed_at, text_of, IsTokenIn}
use Rattle.tptp_lexer.specs.declared.token.Token.{Token}
use Rattle.tptp_lexer.specs.declared.piece.Piece.{Piece}
use Rattle.tptp_lexer.specs.declared.piece.Piece.TheVariants.{Blank, Lexeme, Fault, End}
use Rattle.tptp_lexer.specs.declared.spot.Spot.{Spot}
use Rattle.tptp_lexer.specs.declared.token.TokenKind.{TokenKind}
use Rattle.tptp_lexer.specs.declared.token.LexKind.{LexKind}
use Rattle.tptp_lexer.specs.Forms.{HasForm}
use Rattle.tptp_lexer.proofs.PieceForms.{IsRight, piece-right}
use Rattle.tptp_lexer.proofs.Within.{IsWithin, piece-within}
use Rattle.tptp_lexer.proofs.Places.{IsBehind, passed-behind, spot_at-behind, spot_at-more}
use Rattle.tptp_lexer.proofs.Lexing.{behind, preceded, lexed_from-blank, lexed_from-lexeme, lexed_from-fault, lexed_from-end}

-- the first n bytes of what is left at a place of a text
pub record IsStretch (bytes : List ℕ) (spot : Spot) (rest text : List ℕ) (n : ℕ) : Type 0 where
  pub placed : IsPlace bytes spot
  pub rest_is : rest ≡ drop spot.offset bytes
  pub text_is : text ≡ take n rest
  pub fits : n ≤ length rest

-- the bounds of its line and its column
pub record IsRoomy (bytes : List ℕ) (spot : Spot) (text : List ℕ) (n : ℕ) : Type 0 where
  pub size : length text ≡ n
  pub offset : spot.offset + length text ≤ length bytes
  pub line : spot.line + length text ≤ 1 + length bytes
  pub column : spot.column + length text ≤ 1 + length bytes

-- a stretch keeps its bounds
pub stretch-roomy : (bytes : List ℕ) (spot : Spot) (rest text : List ℕ) (n : ℕ) → IsStretch bytes spot rest text n → IsRoomy bytes spot text n
stretch-roomy bytes spot rest text n s =
    let near = subst (λ p. IsBehind first_spot spot.offset p) (sym s.placed.counted) (spot_at-behind bytes spot.offset s.placed.within) in
    let size : length text ≡ n = omega (arith, ap length s.text_is, length-take n rest, s.fits) in
    let left : length rest ≡ length bytes - spot.offset = ap length s.rest_is ∙ length-drop spot.offset bytes in
    let within = s.placed.within in
    let offset : spot.offset + length text ≤ length bytes = omega (arith, s.fits) in
    record { size = size; offset = offset; line = omega (arith, near.line); column = omega (arith, near.column) }

-- the bounds of a piece that stands there
pub piece-bounds : (rest : List ℕ) (piece : Piece) → piece ≡ piece_of rest → IsWithin (length rest) piece
piece-bounds rest piece e = subst (λ p. IsWithin (length rest) p) (sym e) (piece-within rest)

-- what a piece takes is such a stretch
pub blank-stretch : (bytes : List ℕ) (spot : Spot) (rest text : List ℕ) (n : ℕ) → IsPlace bytes spot → rest ≡ drop spot.offset bytes → text ≡ take n rest → Blank n ≡ piece_of rest
    → IsStretch bytes spot rest text n
blank-stretch bytes spot rest text n placed rest_is text_is piece =
    let bounds = piece-bounds rest (Blank n) piece in
    record { placed = placed; rest_is = rest_is; text_is = text_is; fits = bounds.1 }

-- the same of a token
pub lexeme-stretch : (bytes : List ℕ) (spot : Spot) (rest text : List ℕ) (n : ℕ) → IsPlace bytes spot → rest ≡ drop spot.offset bytes → text ≡ take n rest → (kind : TokenKind) → Lexeme kind n ≡ piece_of rest
    → IsStretch bytes spot rest text n
lexeme-stretch bytes spot rest text n placed rest_is text_is kind piece =
    let bounds = piece-bounds rest (Lexeme kind n) piece in
    record { placed = placed; rest_is = rest_is; text_is = text_is; fits = bounds.1 }

-- the same of what comes before a fault
pub fault-stretch : (bytes : List ℕ) (spot : Spot) (rest text : List ℕ) (n : ℕ) → IsPlace bytes spot → rest ≡ drop spot.offset bytes → text ≡ take n rest → (kind : LexKind) → Fault kind n ≡ piece_of rest
    → IsStretch bytes spot rest text n
fault-stretch bytes spot rest text n placed rest_is text_is kind piece =
    let bounds = piece-bounds rest (Fault kind n) piece in
    record { placed = placed; rest_is = rest_is; text_is = text_is; fits = omega (arith, bounds) }

-- the place behind it
pub stretch-place : (bytes : List ℕ) (spot : Spot) (rest text : List ℕ) (n : ℕ) → IsStretch bytes spot rest text n → (next : Spot) → next ≡ passed spot text
    → (next.offset ≡ spot.offset + n) × IsPlace bytes next
stretch-place bytes spot rest text n s next e =
    let room = stretch-roomy bytes spot rest text n s in
    let near = subst (λ p. IsBehind spot (length text) p) (sym e) (passed-behind spot text) in
    let offset : next.offset ≡ spot.offset + n = omega (arith, near.offset, room.size) in
    let text_is : text ≡ take n (drop spot.offset bytes) = s.text_is ∙ ap (take n) s.rest_is in
    let counted : next ≡ spot_at bytes (spot.offset + n) =
    e ∙ ap (passed spot) text_is ∙ ap (λ p. passed p (take n (drop spot.offset bytes))) s.placed.counted ∙ sym (spot_at-more bytes spot.offset n) in
    (offset, record { within = omega (arith, offset, room.offset, room.size); counted = counted ∙ ap (spot_at bytes) (sym offset) })

lexed_at-here : (bytes : List ℕ) (spot : Spot) (rest : List ℕ) → IsPlace bytes spot → rest ≡ drop spot.offset bytes → lexed_at bytes spot.offset ≡ lexed_from rest spot 0
lexed_at-here bytes spot rest placed rest_is =
    ap (λ s. lexed_from (drop spot.offset bytes) s 0) (sym placed.counted) ∙ ap (λ l. lexed_from l spot 0) (sym rest_is)

behind-there : (bytes : List ℕ) (spot : Spot) (rest text : List ℕ) (n : ℕ) → IsStretch bytes spot rest text n → (next : Spot) → next ≡ passed spot text
    → behind rest spot n ≡ lexed_at bytes next.offset
behind-there bytes spot rest text n s next e =
    let there = stretch-place bytes spot rest text n s next e in
    let left : drop n rest ≡ drop next.offset bytes = ap (drop n) s.rest_is ∙ drop-drop n spot.offset bytes ∙ ap (λ m. drop m bytes) (sym there.0) in
    let place : passed spot (take n rest) ≡ spot_at bytes next.offset = ap (passed spot) (sym s.text_is) ∙ sym e ∙ there.1.counted in
    ap (λ l. lexed_from l (passed spot (take n rest)) 0) left ∙ ap (λ p. lexed_from (drop next.offset bytes) p 0) place

-- behind white space or a comment the same tokens are left
pub stretch-blank : (bytes : List ℕ) (spot : Spot) (rest text : List ℕ) (n : ℕ) → IsStretch bytes spot rest text n → (next : Spot) → next ≡ passed spot text → Blank n ≡ piece_of rest
    → lexed_at bytes spot.offset ≡ lexed_at bytes next.offset
stretch-blank bytes spot rest text n s next e piece =
    let bounds = piece-bounds rest (Blank n) piece in
    lexed_at-here bytes spot rest s.placed s.rest_is ∙ lexed_from-blank rest spot n (sym piece) bounds.0 bounds.1 ∙ behind-there bytes spot rest text n s next e

-- behind a token the others are left
pub stretch-lexeme : (bytes : List ℕ) (spot : Spot) (rest text : List ℕ) (n : ℕ) → IsStretch bytes spot rest text n → (next : Spot) → next ≡ passed spot text
    → (kind : TokenKind) → Lexeme kind n ≡ piece_of rest
    → lexed_at bytes spot.offset ≡ preceded_by (token_of spot kind text) (lexed_at bytes next.offset)
stretch-lexeme bytes spot rest text n s next e kind piece =
    let bounds = piece-bounds rest (Lexeme kind n) piece in
    lexed_at-here bytes spot rest s.placed s.rest_is
    ∙ lexed_from-lexeme rest spot kind n (sym piece) bounds.0 bounds.1
    ∙ ap (preceded rest spot n kind) (behind-there bytes spot rest text n s next e)
    ∙ ap (λ t. preceded_by (token_of spot kind t) (lexed_at bytes next.offset)) (sym s.text_is)

-- the token has a text there
pub stretch-token : (bytes : List ℕ) (spot : Spot) (rest text : List ℕ) (n : ℕ) → IsStretch bytes spot rest text n → (kind : TokenKind) → Lexeme kind n ≡ piece_of rest
    → (token : Token) → token ≡ token_of spot kind text → IsTokenIn bytes token
stretch-token bytes spot rest text n s kind piece token e =
    let room = stretch-roomy bytes spot rest text n s in
    let bounds = piece-bounds rest (Lexeme kind n) piece in
    let start : token.start ≡ spot.offset = ap (λ t. t.start) e in
    let stop : token.end ≡ spot.offset + length text = ap (λ t. t.end) e in
    let size : token.end - token.start ≡ n = omega (arith, start, stop, room.size) in
    let same : text_of bytes token ≡ text =
    ap (λ m. take m (drop token.start bytes)) size ∙ ap (λ m. take n (drop m bytes)) start ∙ ap (take n) (sym s.rest_is) ∙ sym s.text_is in
    let of_kind : token.kind ≡ kind = ap (λ t. t.kind) e in
    let right : HasForm kind (take n rest) = subst (IsRight rest) (sym piece) (piece-right rest) in
    record {
      some = omega (arith, room.size, bounds.0, start, stop);
      within = omega (arith, room.offset, stop);
      form = rw (same, of_kind, s.text_is) right;
      plain = rw (same, of_kind) (ap (λ t. t.plain) e);
    }

-- at a fault no token is left
pub stretch-fault : (bytes : List ℕ) (spot : Spot) (rest text : List ℕ) (n : ℕ) → IsStretch bytes spot rest text n → (kind : LexKind) → Fault kind n ≡ piece_of rest
    → lexed_at bytes spot.offset ≡ record { tokens = []; fault = Some (fault_at kind (passed spot text)) }
stretch-fault bytes spot rest text n s kind piece =
    lexed_at-here bytes spot rest s.placed s.rest_is
    ∙ lexed_from-fault rest spot kind n (sym piece)
    ∙ ap (λ t. record { tokens = []; fault = Some (fault_at kind (passed spot t)) }) (sym s.text_is)

-- at the end no token and no fault is left
pub lexed_at-end : (bytes : List ℕ) (spot : Spot) (rest : List ℕ) → IsPlace bytes spot → rest ≡ drop spot.offset bytes → End ≡ piece_of rest
    → lexed_at bytes spot.offset ≡ record { tokens = []; fault = None }
lexed_at-end bytes spot rest placed rest_is piece = lexed_at-here bytes spot rest placed rest_is ∙ lexed_from-end rest spot (sym piece)
