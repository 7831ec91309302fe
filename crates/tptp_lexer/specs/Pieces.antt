-- The piece that a text begins with: white space, a comment, a token, a fault or the end.
use Rattle.std.specs.Prelude.{ℕ, ◌+◌, false, List, [], ◌∷◌, Option, Some, None, take, drop, ◌==◌, if◌then◌else◌}
use Rattle.std.specs.List.{prefix_len}
use Rattle.ascii_text.specs.Bytes.{is_white, is_lower_letter, is_upper_letter, is_word_byte, is_visible, begins}
use Rattle.tptp_lexer.specs.Comments.{line_len, before_close}
use Rattle.tptp_lexer.specs.Quotes.{before_quote, first_flaw}
use Rattle.tptp_lexer.specs.Numbers.{starts_number, number_rest_len}
use Rattle.tptp_lexer.specs.declared.token.TokenKind.{TokenKind}
use Rattle.tptp_lexer.specs.declared.token.TokenKind.TheVariants.{Lower, Upper, Quoted, Distinct, Dollar, Number, NotEqual, Punct}
use Rattle.tptp_lexer.specs.declared.token.LexKind.TheVariants.{BadByte, OpenQuote, OpenComment}
use Rattle.tptp_lexer.specs.declared.piece.Flaw.{Flaw}
use Rattle.tptp_lexer.specs.declared.piece.Piece.{Piece}
use Rattle.tptp_lexer.specs.declared.piece.Piece.TheVariants.{Blank, Lexeme, Fault, End}

-- `/*` up to the first `*/` behind it; the bytes are those behind `/*`
abbrev pub block_piece : Option ℕ → Piece
block_piece (Some before) = Blank (4 + before)
block_piece None = Fault OpenComment 0

-- a comment that begins with `/*`, or a `/` alone
unfoldable pub slash_piece : List ℕ → Piece
slash_piece [] = Lexeme (Punct 47) 1
slash_piece (b ∷ bs) = if b == 42 then block_piece (before_close bs) else Lexeme (Punct 47) 1

-- a closed form of so many bytes inside, with its first fault if it has one
abbrev pub closed_piece : TokenKind → ℕ → Option Flaw → Piece
closed_piece kind before None = Lexeme kind (2 + before)
closed_piece kind before (Some flaw) = Fault flaw.kind (1 + flaw.before)

-- a quoted form whose inside, with what follows, are these bytes
abbrev pub quoted_piece_by : TokenKind → ℕ → List ℕ → Option ℕ → Piece
quoted_piece_by kind quote bytes None = Fault OpenQuote 0
quoted_piece_by kind quote bytes (Some before) = closed_piece kind before (first_flaw quote false (take before bytes))

-- a quoted form, whose opening quote stands before these bytes
unfoldable pub quoted_piece : TokenKind → ℕ → List ℕ → Piece
quoted_piece kind quote bytes = quoted_piece_by kind quote bytes (before_quote quote false bytes)

-- a lower-case letter, and then letters, digits and `_`: how many bytes these are, or 0
abbrev pub name_len : List ℕ → ℕ
name_len [] = 0
name_len (b ∷ bs) = if is_lower_letter b then 1 + prefix_len is_word_byte bs else 0

-- so many `$` before a name of this length, or a `$` alone where there is no name
abbrev pub named_piece : ℕ → ℕ → Piece
named_piece marks name = if name == 0 then Lexeme (Punct 36) 1 else Lexeme Dollar (marks + name)

-- `$` or `$$` with a name, or a `$` alone
unfoldable pub dollar_piece : List ℕ → Piece
dollar_piece bytes =
    if begins (λ b. b == 36) bytes
    then named_piece 2 (name_len (drop 1 bytes))
    else named_piece 1 (name_len bytes)

-- `!=`, or a `!` alone
unfoldable pub bang_piece : List ℕ → Piece
bang_piece bytes = if begins (λ b. b == 61) bytes then Lexeme NotEqual 2 else Lexeme (Punct 33) 1

-- the piece that begins with this byte, which is no letter and begins no number and no white space
unfoldable pub mark_piece : ℕ → List ℕ → Piece
mark_piece b bs =
    if b == 37 then Blank (1 + line_len bs)
    else (if b == 47 then slash_piece bs
    else (if b == 39 then quoted_piece Quoted 39 bs
    else (if b == 34 then quoted_piece Distinct 34 bs
    else (if b == 36 then dollar_piece bs
    else (if b == 33 then bang_piece bs
    else (if is_visible b then Lexeme (Punct b) 1
    else Fault BadByte 0))))))

-- the piece that begins with this byte, before these bytes
unfoldable pub piece_from : ℕ → List ℕ → Piece
piece_from b bs =
    if is_white b then Blank 1
    else (if is_lower_letter b then Lexeme Lower (1 + prefix_len is_word_byte bs)
    else (if is_upper_letter b then Lexeme Upper (1 + prefix_len is_word_byte bs)
    else (if starts_number b bs then Lexeme Number (1 + number_rest_len bs)
    else mark_piece b bs)))

-- the piece that the text begins with
abbrev pub piece_of : List ℕ → Piece
piece_of [] = End
piece_of (b ∷ bs) = piece_from b bs

-- the piece is no white space and no comment
abbrev pub IsSolid : Piece → Type 0
IsSolid (Blank n) = ⊥
IsSolid (Lexeme kind n) = Unit {0}
IsSolid (Fault kind n) = Unit {0}
IsSolid End = Unit {0}
