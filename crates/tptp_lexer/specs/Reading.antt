-- What a lexer is seen as.
use Rattle.std.specs.Prelude.{ℕ, List}
use Rattle.tptp_lexer.specs.Tokens.{Lexed}

-- the whole text, and the tokens that are left of it
pub record Reading : Type 0 where
  pub bytes : List ℕ
  pub left : Lexed
