-- What the grammar sees of a token.
use Rattle.std.specs.Prelude.{ℕ, Bool, true, false, ◌==◌, ◌||◌, not, List, codes, bytes_eq}
use Rattle.tptp_lexer.specs.declared.token.TokenKind.{TokenKind}
use Rattle.tptp_lexer.specs.declared.token.TokenKind.TheVariants as kinds

-- a token: its kind, with its bytes as written where the kind does not tell them, and of a number whether it is plain
pub data Shape : Type 0 where
  Lower : (text : List ℕ) → Shape
  Upper : (text : List ℕ) → Shape
  Quoted : (text : List ℕ) → Shape
  Distinct : (text : List ℕ) → Shape
  Dollar : (text : List ℕ) → Shape
  Number : (text : List ℕ) (plain : Bool) → Shape
  NotEqual : Shape
  Punct : (byte : ℕ) → Shape

-- the shape of a token of this kind with these bytes
abbrev pub shape_of : TokenKind → List ℕ → Bool → Shape
shape_of kinds.Lower text plain = Lower text
shape_of kinds.Upper text plain = Upper text
shape_of kinds.Quoted text plain = Quoted text
shape_of kinds.Distinct text plain = Distinct text
shape_of kinds.Dollar text plain = Dollar text
shape_of kinds.Number text plain = Number text plain
shape_of kinds.NotEqual text plain = NotEqual
shape_of (kinds.Punct byte) text plain = Punct byte

-- (
abbrev pub left_round : ℕ
left_round = 40

-- )
abbrev pub right_round : ℕ
right_round = 41

-- [
abbrev pub left_square : ℕ
left_square = 91

-- ]
abbrev pub right_square : ℕ
right_square = 93

-- ,
abbrev pub comma : ℕ
comma = 44

-- .
abbrev pub dot : ℕ
dot = 46

-- |
abbrev pub bar : ℕ
bar = 124

-- ~
abbrev pub tilde : ℕ
tilde = 126

-- whether it is this mark
abbrev pub is_mark : ℕ → Shape → Bool
is_mark byte (Punct b) = b == byte
is_mark byte _ = false

-- whether it is a round or square bracket
abbrev pub is_bracket : Shape → Bool
is_bracket s = is_mark left_round s || is_mark right_round s || is_mark left_square s || is_mark right_square s

-- whether it is this lower-case word
abbrev pub is_keyword : List ℕ → Shape → Bool
is_keyword word (Lower text) = bytes_eq text word
is_keyword word _ = false

-- whether it is this word with a dollar sign
abbrev pub is_defined : List ℕ → Shape → Bool
is_defined word (Dollar text) = bytes_eq text word
is_defined word _ = false

-- whether it is a lower-case word
abbrev pub is_lower : Shape → Bool
is_lower (Lower text) = true
is_lower _ = false

-- whether it is a word
abbrev pub is_word : Shape → Bool
is_word (Lower text) = true
is_word (Quoted text) = true
is_word _ = false

-- whether it is a name
abbrev pub is_name : Shape → Bool
is_name (Lower text) = true
is_name (Quoted text) = true
is_name (Number text plain) = plain
is_name _ = false

-- whether it is a term of one token that takes no arguments
abbrev pub is_simple_term : Shape → Bool
is_simple_term (Upper text) = true
is_simple_term (Number text plain) = plain
is_simple_term (Distinct text) = true
is_simple_term _ = false

-- whether it is a file name: a word, and not the empty one in quotes
abbrev pub is_file_name : Shape → Bool
is_file_name (Lower text) = true
is_file_name (Quoted text) = not (bytes_eq text (codes "''"))
is_file_name _ = false
