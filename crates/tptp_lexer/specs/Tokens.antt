-- The tokens of a text, and the end or the fault behind them.
use Rattle.std.specs.Prelude.{◌≡◌, ℕ, zero, suc, ◌+◌, ◌-◌, ◌<◌, ◌≤◌, Bool, false, List, [], ◌∷◌, Option, Some, None, Result, Ok, Err, length, take, drop, slice_range}
use Rattle.tptp_lexer.specs.Forms.{HasForm}
use Rattle.ascii_text.specs.Numbers.{is_plain_number}
use Rattle.tptp_lexer.specs.Pieces.{piece_of}
use Rattle.tptp_lexer.specs.Spots.{first_spot, past, passed, spot_at, IsPlace}
use Rattle.tptp_lexer.specs.declared.token.TokenKind.{TokenKind}
use Rattle.tptp_lexer.specs.declared.token.TokenKind.TheVariants.{Number}
use Rattle.tptp_lexer.specs.declared.token.Token.{Token}
use Rattle.tptp_lexer.specs.declared.token.LexKind.{LexKind}
use Rattle.tptp_lexer.specs.declared.token.LexFault.{LexFault}
use Rattle.tptp_lexer.specs.declared.piece.Piece.{Piece}
use Rattle.tptp_lexer.specs.declared.piece.Piece.TheVariants.{Blank, Lexeme, Fault, End}
use Rattle.tptp_lexer.specs.declared.spot.Spot.{Spot}
use Rattle.tptp_lexer.specs.declared.cursor.Cursor.{Cursor}

-- the tokens of a text, and the fault behind them, or none where the end is
pub record Lexed : Type 0 where
  pub tokens : List Token
  pub fault : Option LexFault

-- only a number is plain, and only by its text
abbrev pub plain_of : TokenKind → List ℕ → Bool
plain_of Number text = is_plain_number text
plain_of _ text = false

-- the token of this kind and text at this place
abbrev pub token_of : Spot → TokenKind → List ℕ → Token
token_of spot kind text = record {
  kind = kind;
  start = spot.offset;
  end = spot.offset + length text;
  line = spot.line;
  column = spot.column;
  plain = plain_of kind text;
}

-- the fault at this place
abbrev pub fault_at : LexKind → Spot → LexFault
fault_at kind spot = record { kind = kind; line = spot.line; column = spot.column }

-- this token before these
abbrev pub preceded_by : Token → Lexed → Lexed
preceded_by token lexed = record { tokens = token ∷ lexed.tokens; fault = lexed.fault }

-- what a piece at the front of these bytes gives; `behind` gives what comes behind it, where so many of its bytes but the first are still to be passed
abbrev pub lexed_by : Piece → Spot → List ℕ → (ℕ → Lexed) → Lexed
lexed_by End spot bytes behind = record { tokens = []; fault = None }
lexed_by (Blank n) spot bytes behind = behind (n - 1)
lexed_by (Lexeme kind n) spot bytes behind = preceded_by (token_of spot kind (take n bytes)) (behind (n - 1))
lexed_by (Fault kind n) spot bytes behind = record { tokens = []; fault = Some (fault_at kind (passed spot (take n bytes))) }

-- the tokens of these bytes, the first of which is at this place, once so many bytes of a piece under way are passed
unfoldable pub lexed_from : List ℕ → Spot → ℕ → Lexed
lexed_from [] spot passing = record { tokens = []; fault = None }
lexed_from (b ∷ bs) spot (suc passing) = lexed_from bs (past spot b) passing
lexed_from (b ∷ bs) spot zero = lexed_by (piece_of (b ∷ bs)) spot (b ∷ bs) (λ passing. lexed_from bs (past spot b) passing)

-- the tokens of a text from this offset on
abbrev pub lexed_at : List ℕ → ℕ → Lexed
lexed_at bytes offset = lexed_from (drop offset bytes) (spot_at bytes offset) 0

-- the tokens of a text
abbrev pub tokens_of : List ℕ → Lexed
tokens_of bytes = lexed_from bytes first_spot 0

-- what these tokens and this fault begin with
abbrev pub first_by : List Token → Option LexFault → Result (Option Token) LexFault
first_by (token ∷ tokens) fault = Ok (Some token)
first_by [] (Some fault) = Err fault
first_by [] None = Ok None

-- what is answered where these are left: the next token, else the fault, else the end
abbrev pub first_of : Lexed → Result (Option Token) LexFault
first_of lexed = first_by lexed.tokens lexed.fault

-- what is left then: an end or a fault stays
abbrev pub rest_of : Lexed → Lexed
rest_of lexed = record { tokens = drop 1 lexed.tokens; fault = lexed.fault }

-- the cursor at the front of any text
abbrev pub start_cursor : Cursor
start_cursor = record { spot = first_spot; fault = None }

-- what is left of a text at a cursor
abbrev pub left_of : List ℕ → Cursor → Lexed
left_of bytes cursor = lexed_at bytes cursor.spot.offset

-- the cursor is one of this text, and the fault that it keeps stands there
pub record IsAt (bytes : List ℕ) (cursor : Cursor) : Type 0 where
  pub placed : IsPlace bytes cursor.spot
  pub standing : (fault : LexFault) → cursor.fault ≡ Some fault → left_of bytes cursor ≡ record { tokens = []; fault = Some fault }

-- the text of a token of these bytes
abbrev pub text_of : List ℕ → Token → List ℕ
text_of bytes token = slice_range bytes token.start token.end

-- the token has a text in these bytes, with the form of its kind
pub record IsTokenIn (bytes : List ℕ) (token : Token) : Type 0 where
  pub some : token.start < token.end
  pub within : token.end ≤ length bytes
  pub form : HasForm token.kind (text_of bytes token)
  pub plain : token.plain ≡ plain_of token.kind (text_of bytes token)
