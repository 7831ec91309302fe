-- Lines and columns, counted from the front of the text.
use Rattle.std.specs.Prelude.{◌≡◌, ◌⊎◌, ℕ, ◌+◌, List, [], ◌∷◌, ◌++◌, length, take, count_by, ◌==◌}
use Rattle.ascii_text.specs.Bytes.{is_in_line}
use Rattle.tptp_lexer.specs.Forms.{Each}
use Rattle.tptp_lexer.specs.declared.token.Token.{Token}

-- these bytes are none, or end with a line feed
abbrev pub AreLines : List ℕ → Type 0
AreLines bytes = (bytes ≡ []) ⊎ ((before : List ℕ) × (bytes ≡ before ++ 10 ∷ []))

-- the line and the column of what stands behind these bytes
pub record IsPlaceBehind (bytes : List ℕ) (line column : ℕ) : Type 0 where
  -- one more than there are line feeds
  pub line_is : line ≡ 1 + count_by (λ b. b == 10) bytes
  -- whole lines, and the part of a line that is behind them
  pub lines : List ℕ
  pub part : List ℕ
  pub cut : bytes ≡ lines ++ part
  pub whole : AreLines lines
  pub in_line : Each is_in_line part
  -- one more than this part has bytes
  pub column_is : column ≡ 1 + length part

-- each token stands at its place in the text
abbrev pub ArePlaced : List ℕ → List Token → Type 0
ArePlaced bytes [] = Unit {0}
ArePlaced bytes (token ∷ tokens) = IsPlaceBehind (take token.start bytes) token.line token.column × ArePlaced bytes tokens
