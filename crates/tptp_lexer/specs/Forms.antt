-- The forms of tokens, as the table of tokens says them, without a scan.
use Rattle.std.specs.Prelude.{◌≡◌, ◌≢◌, ◌⊎◌, ℕ, Bool, true, false, List, [], ◌∷◌, ◌++◌, ◌==◌, ◌&&◌, ◌||◌, not}
use Rattle.ascii_text.specs.Bytes.{is_lower_letter, is_upper_letter, is_digit, is_word_byte, is_printable, is_visible}
use Rattle.tptp_lexer.specs.Numbers.{is_sign, is_exponent_mark}
use Rattle.tptp_lexer.specs.declared.token.TokenKind.{TokenKind}
use Rattle.tptp_lexer.specs.declared.token.TokenKind.TheVariants.{Lower, Upper, Quoted, Distinct, Dollar, Number, NotEqual, Punct}

-- each byte is of this class
abbrev pub Each : (ℕ → Bool) → List ℕ → Type 0
Each test [] = Unit {0}
Each test (b ∷ bs) = (test b ≡ true) × Each test bs

-- a byte of this class, then letters, digits and `_`
abbrev pub IsWordOf : (ℕ → Bool) → List ℕ → Type 0
IsWordOf first [] = ⊥
IsWordOf first (b ∷ bs) = (first b ≡ true) × Each is_word_byte bs

-- a lower-case letter, then letters, digits and `_`
abbrev pub IsLower : List ℕ → Type 0
IsLower text = IsWordOf is_lower_letter text

-- an upper-case letter, then letters, digits and `_`
abbrev pub IsUpper : List ℕ → Type 0
IsUpper text = IsWordOf is_upper_letter text

-- a part of what stands between quotes
pub data Item : Type 0 where
  -- a byte as it is
  plain : (b : ℕ) → Item
  -- a backslash and the byte that it escapes
  escaped : (b : ℕ) → Item

-- the bytes of these parts
abbrev pub bytes_of : List Item → List ℕ
bytes_of [] = []
bytes_of (plain b ∷ items) = b ∷ bytes_of items
bytes_of (escaped b ∷ items) = 92 ∷ b ∷ bytes_of items

-- the bytes that these parts stand for
abbrev pub meant_by : List Item → List ℕ
meant_by [] = []
meant_by (plain b ∷ items) = b ∷ meant_by items
meant_by (escaped b ∷ items) = b ∷ meant_by items

-- bytes 32 to 126 other than the quote and the backslash stand as they are, and these two are escaped
abbrev pub AreItems : ℕ → List Item → Type 0
AreItems quote [] = Unit {0}
AreItems quote (plain b ∷ items) = (is_printable b ≡ true) × (b == quote || b == 92 ≡ false) × AreItems quote items
AreItems quote (escaped b ∷ items) = (b == quote || b == 92 ≡ true) × AreItems quote items

-- parts between two of these quotes
abbrev pub IsQuotedBy : ℕ → List ℕ → Type 0
IsQuotedBy quote text = (items : List Item) × AreItems quote items × (text ≡ quote ∷ (bytes_of items ++ quote ∷ []))

-- a form between single quotes
abbrev pub IsQuoted : List ℕ → Type 0
IsQuoted text = IsQuotedBy 39 text

-- a form between double quotes
abbrev pub IsDistinct : List ℕ → Type 0
IsDistinct text = IsQuotedBy 34 text

-- `$` or `$$`, then a lower-case letter, then letters, digits and `_`
abbrev pub IsDollar : List ℕ → Type 0
IsDollar text = (name : List ℕ) × IsLower name × ((text ≡ 36 ∷ name) ⊎ (text ≡ 36 ∷ 36 ∷ name))

-- at least one digit, and only digits
abbrev pub IsDigits : List ℕ → Type 0
IsDigits [] = ⊥
IsDigits (b ∷ bs) = (is_digit b ≡ true) × Each is_digit bs

-- digits, or a sign and digits
abbrev pub IsSigned : List ℕ → Type 0
IsSigned [] = ⊥
IsSigned (b ∷ bs) = IsDigits (b ∷ bs) ⊎ ((is_sign b ≡ true) × IsDigits bs)

-- nothing, or `.` and digits
abbrev pub IsFraction : List ℕ → Type 0
IsFraction [] = Unit {0}
IsFraction (b ∷ bs) = (b ≡ 46) × IsDigits bs

-- nothing, or `e` or `E`, and digits with a sign or without
abbrev pub IsExponent : List ℕ → Type 0
IsExponent [] = Unit {0}
IsExponent (b ∷ bs) = (is_exponent_mark b ≡ true) × IsSigned bs

-- signed digits, `/` and digits
abbrev pub IsQuotient : List ℕ → Type 0
IsQuotient text = (whole : List ℕ) × (digits : List ℕ) × IsSigned whole × IsDigits digits × (text ≡ whole ++ 47 ∷ digits)

-- signed digits, with a fraction or without, with an exponent or without
abbrev pub IsDecimal : List ℕ → Type 0
IsDecimal text =
    (whole : List ℕ) × (fraction : List ℕ) × (exponent : List ℕ) × IsSigned whole × IsFraction fraction × IsExponent exponent × (text ≡ whole ++ (fraction ++ exponent))

-- a whole number, a quotient or a decimal number
abbrev pub IsNumber : List ℕ → Type 0
IsNumber text = IsQuotient text ⊎ IsDecimal text

-- `0`, or digits that begin with no zero
abbrev pub IsPlainNumber : List ℕ → Type 0
IsPlainNumber [] = ⊥
IsPlainNumber (b ∷ bs) = (b ∷ bs ≡ 48 ∷ []) ⊎ ((is_digit b ≡ true) × (b ≢ 48) × Each is_digit bs)

-- a visible byte that begins no name, no number, no quoted form and no comment to the end of the line
unfoldable pub is_mark : ℕ → Bool
is_mark b = is_visible b && not (is_lower_letter b || is_upper_letter b || is_digit b || b == 34 || b == 37 || b == 39)

-- the text has the form of this kind of token
abbrev pub HasForm : TokenKind → List ℕ → Type 0
HasForm Lower text = IsLower text
HasForm Upper text = IsUpper text
HasForm Quoted text = IsQuoted text
HasForm Distinct text = IsDistinct text
HasForm Dollar text = IsDollar text
HasForm Number text = IsNumber text
HasForm NotEqual text = text ≡ 33 ∷ 61 ∷ []
HasForm (Punct b) text = (text ≡ b ∷ []) × (is_mark b ≡ true)

-- a text of this kind is plain: only a number is
abbrev pub IsPlain : TokenKind → List ℕ → Type 0
IsPlain Number text = IsPlainNumber text
IsPlain _ text = ⊥

-- the text has the form of a token
abbrev pub IsToken : List ℕ → Type 0
IsToken text = (kind : TokenKind) × HasForm kind text
