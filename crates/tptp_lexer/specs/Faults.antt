-- Where faults stand, as the table of faults says it, without a scan.
use Rattle.std.specs.Prelude.{◌≡◌, ◌⊎◌, ℕ, ◌+◌, ◌<◌, false, List, [], ◌∷◌, ◌++◌, Option, Some, None, length, take, drop, ◌==◌, ◌||◌}
use Rattle.ascii_text.specs.Bytes.{is_white, is_visible, is_printable, is_line_end, begins}
use Rattle.tptp_lexer.specs.Forms.{Item, plain, escaped, bytes_of, AreItems}
use Rattle.tptp_lexer.specs.Cuts.{HoldsClose, IsGap}
use Rattle.tptp_lexer.specs.Lines.{IsPlaceBehind}
use Rattle.tptp_lexer.specs.declared.token.Token.{Token}
use Rattle.tptp_lexer.specs.declared.token.LexKind.{LexKind}
use Rattle.tptp_lexer.specs.declared.token.LexKind.TheVariants.{BadByte, OpenQuote, BadEscape, OpenComment}
use Rattle.tptp_lexer.specs.declared.token.LexFault.{LexFault}

-- bytes on one line before a closing quote, good or not: a backslash goes with the byte behind it
abbrev pub ArePairs : ℕ → List Item → Type 0
ArePairs quote [] = Unit {0}
ArePairs quote (plain b ∷ items) = (is_line_end b ≡ false) × (b == quote || b == 92 ≡ false) × ArePairs quote items
ArePairs quote (escaped b ∷ items) = (is_line_end b ≡ false) × ArePairs quote items

-- the closing quote comes, before a line end and before the end
abbrev pub IsClosed : ℕ → List ℕ → Type 0
IsClosed quote inside = (items : List Item) × (rest : List ℕ) × ArePairs quote items × (inside ≡ bytes_of items ++ quote ∷ rest)

-- the text opens a quoted form by this quote
pub record Opens (bytes : List ℕ) (quote : ℕ) (inside : List ℕ) : Type 0 where
  pub is_quote : (quote ≡ 39) ⊎ (quote ≡ 34)
  pub opened : bytes ≡ quote ∷ inside

-- this is the first bad byte, or the first bad escape, that comes inside
abbrev pub IsBad : LexKind → ℕ → List ℕ → Type 0
IsBad BadByte quote bytes = (b : ℕ) × (rest : List ℕ) × (is_printable b ≡ false) × (bytes ≡ b ∷ rest)
IsBad BadEscape quote bytes = (rest : List ℕ) × (begins (λ b. b == quote || b == 92) rest ≡ false) × (bytes ≡ 92 ∷ rest)
IsBad OpenQuote quote bytes = ⊥
IsBad OpenComment quote bytes = ⊥

-- in a closed form good parts come, and behind so many bytes, the quote among them, this fault
pub record StandsInside (kind : LexKind) (bytes : List ℕ) (n : ℕ) : Type 0 where
  pub quote : ℕ
  pub inside : List ℕ
  pub opens : Opens bytes quote inside
  pub closed : IsClosed quote inside
  pub items : List Item
  pub good : AreItems quote items
  pub before : n ≡ 1 + length (bytes_of items)
  pub rest : List ℕ
  pub cut : inside ≡ bytes_of items ++ rest
  pub bad : IsBad kind quote rest

-- the first byte is no white space and not visible
abbrev pub BeginsBadly : List ℕ → Type 0
BeginsBadly bytes = (b : ℕ) × (rest : List ℕ) × (is_white b ≡ false) × (is_visible b ≡ false) × (bytes ≡ b ∷ rest)

-- the fault stands behind so many of these bytes, where a token would begin
abbrev pub FaultStands : LexKind → List ℕ → ℕ → Type 0
FaultStands BadByte bytes n = ((n ≡ 0) × BeginsBadly bytes) ⊎ StandsInside BadByte bytes n
FaultStands OpenQuote bytes n = (n ≡ 0) × (quote : ℕ) × (inside : List ℕ) × Opens bytes quote inside × (IsClosed quote inside → ⊥)
FaultStands BadEscape bytes n = StandsInside BadEscape bytes n
FaultStands OpenComment bytes n = (n ≡ 0) × (inside : List ℕ) × (HoldsClose inside → ⊥) × (bytes ≡ 47 ∷ 42 ∷ inside)

-- the offset behind the last of these tokens; this one where there is none
abbrev pub end_of : ℕ → List Token → ℕ
end_of offset [] = offset
end_of offset (token ∷ tokens) = end_of token.end tokens

-- behind so many bytes of the text comes a gap, where a token would begin then, and so many bytes further on the fault stands, at its line and column
pub record StandsBehind (bytes : List ℕ) (offset : ℕ) (fault : LexFault) : Type 0 where
  pub gap : List ℕ
  pub after : List ℕ
  pub cut : drop offset bytes ≡ gap ++ after
  pub passed_over : IsGap gap after
  pub n : ℕ
  pub stands : FaultStands fault.kind after n
  pub within : n < length after
  pub place : IsPlaceBehind (take (offset + length gap + n) bytes) fault.line fault.column

-- the fault, if there is one, stands behind so many bytes of the text
abbrev pub IsFaultOf : List ℕ → ℕ → Option LexFault → Type 0
IsFaultOf bytes offset None = Unit {0}
IsFaultOf bytes offset (Some fault) = StandsBehind bytes offset fault
