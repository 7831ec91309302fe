-- The tokens of a text, by laws that know no scan.
use Rattle.std.specs.Prelude.{ℕ, List}
use Rattle.tptp_lexer.specs.Cuts.{IsCut}
use Rattle.tptp_lexer.specs.Lines.{ArePlaced}
use Rattle.tptp_lexer.specs.Faults.{end_of, IsFaultOf}
use Rattle.tptp_lexer.specs.Tokens.{Lexed}

-- these tokens, and the end or the fault behind them, keep the laws for this text
pub record AreTokensOf (bytes : List ℕ) (lexed : Lexed) : Type 0 where
  -- gaps and the texts of the tokens in turn, each the longest that a token can have there, up to the end or to where no token begins
  pub cut : IsCut 0 bytes lexed.tokens lexed.fault
  -- each token stands at its line and column
  pub placed : ArePlaced bytes lexed.tokens
  -- the fault, if there is one, stands behind them where its kind says, at its line and column
  pub faulty : IsFaultOf bytes (end_of 0 lexed.tokens) lexed.fault
