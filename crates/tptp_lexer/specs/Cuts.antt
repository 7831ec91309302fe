-- A text as passed-over text and tokens in turn.
use Rattle.std.specs.Prelude.{◌≡◌, ◌≢◌, ◌⊎◌, ◌↔◌, ℕ, ◌+◌, true, List, [], ◌∷◌, ◌++◌, Option, Some, None, length}
use Rattle.std.specs.List.{concat}
use Rattle.ascii_text.specs.Bytes.{is_white, is_in_line}
use Rattle.tptp_lexer.specs.Forms.{Each, HasForm, IsPlain, IsToken}
use Rattle.tptp_lexer.specs.declared.token.Token.{Token}
use Rattle.tptp_lexer.specs.declared.token.LexKind.{LexKind}
use Rattle.tptp_lexer.specs.declared.token.LexKind.TheVariants.{BadByte, OpenQuote, BadEscape, OpenComment}
use Rattle.tptp_lexer.specs.declared.token.LexFault.{LexFault}

-- one byte of white space
abbrev pub IsWhite : List ℕ → Type 0
IsWhite text = (b : ℕ) × (is_white b ≡ true) × (text ≡ b ∷ [])

-- `%` and no line feed
abbrev pub IsLineComment : List ℕ → Type 0
IsLineComment text = (inside : List ℕ) × Each is_in_line inside × (text ≡ 37 ∷ inside)

-- the line ends here: a line feed comes, or the end
abbrev pub EndsLine : List ℕ → Type 0
EndsLine [] = Unit {0}
EndsLine (b ∷ bs) = b ≡ 10

-- `*/` stands somewhere in the text
abbrev pub HoldsClose : List ℕ → Type 0
HoldsClose text = (before : List ℕ) × (after : List ℕ) × (text ≡ before ++ 42 ∷ 47 ∷ after)

-- `/*`, then bytes that have no `*/`, also not with the `*` that comes then, then `*/`
abbrev pub IsBlockComment : List ℕ → Type 0
IsBlockComment text = (inside : List ℕ) × (HoldsClose (inside ++ 42 ∷ []) → ⊥) × (text ≡ 47 ∷ 42 ∷ (inside ++ 42 ∷ 47 ∷ []))

-- a byte of white space, or a comment, before these bytes
abbrev pub IsBlank : List ℕ → List ℕ → Type 0
IsBlank text after = IsWhite text ⊎ ((IsLineComment text × EndsLine after) ⊎ IsBlockComment text)

-- each of these texts, before the others and these bytes, is white space or a comment
abbrev pub AreBlank : List (List ℕ) → List ℕ → Type 0
AreBlank [] after = Unit {0}
AreBlank (text ∷ texts) after = IsBlank text (concat texts ++ after) × AreBlank texts after

-- white space and comments, before these bytes
abbrev pub IsGap : List ℕ → List ℕ → Type 0
IsGap gap after = (texts : List (List ℕ)) × AreBlank texts after × (gap ≡ concat texts)

-- no white space and no comment begins here
abbrev pub NoBlank : List ℕ → Type 0
NoBlank bytes = (front rest : List ℕ) → bytes ≡ front ++ rest → IsBlank front rest → ⊥

-- no comment opens with `/*` here
abbrev pub NoOpening : List ℕ → Type 0
NoOpening bytes = (inside : List ℕ) → bytes ≡ 47 ∷ 42 ∷ inside → ⊥

-- no token begins here
abbrev pub NoToken : List ℕ → Type 0
NoToken bytes = (front rest : List ℕ) → bytes ≡ front ++ rest → IsToken front → ⊥

-- no longer front of what stands there is a token
abbrev pub IsLongest : List ℕ → List ℕ → Type 0
IsLongest text after = (more rest : List ℕ) → after ≡ more ++ rest → more ≢ [] → IsToken (text ++ more) → ⊥

-- the token comes next behind so many bytes: a gap, the token's text, and what is left then
pub record IsNext (offset : ℕ) (bytes : List ℕ) (token : Token) (after : List ℕ) : Type 0 where
  pub gap : List ℕ
  pub text : List ℕ
  pub cut : bytes ≡ gap ++ (text ++ after)
  pub passed_over : IsGap gap (text ++ after)
  pub start : token.start ≡ offset + length gap
  pub stop : token.end ≡ offset + length gap + length text
  pub form : HasForm token.kind text
  pub longest : IsLongest text after
  pub no_blank : NoBlank (text ++ after)
  pub no_opening : NoOpening (text ++ after)
  pub plain : (token.plain ≡ true) ↔ IsPlain token.kind text

-- why nothing can be cut off here: an open comment, or bytes that no token begins
abbrev pub IsStuck : LexKind → List ℕ → Type 0
IsStuck OpenComment bytes = (inside : List ℕ) × (HoldsClose inside → ⊥) × (bytes ≡ 47 ∷ 42 ∷ inside)
IsStuck BadByte bytes = (bytes ≢ []) × NoToken bytes
IsStuck OpenQuote bytes = (bytes ≢ []) × NoToken bytes
IsStuck BadEscape bytes = (bytes ≢ []) × NoToken bytes

-- behind the last token stands a gap, up to the end, or up to where the text is stuck
abbrev pub EndsBy : List ℕ → Option LexFault → Type 0
EndsBy bytes None = IsGap bytes []
EndsBy bytes (Some fault) = (gap : List ℕ) × (after : List ℕ) × (bytes ≡ gap ++ after) × IsGap gap after × NoBlank after × IsStuck fault.kind after

-- these bytes, so many bytes behind the front, are gaps and these tokens in turn, up to the end or to the fault
abbrev pub IsCut : ℕ → List ℕ → List Token → Option LexFault → Type 0
IsCut offset bytes [] fault = EndsBy bytes fault
IsCut offset bytes (token ∷ tokens) fault = (after : List ℕ) × IsNext offset bytes token after × IsCut token.end after tokens fault
