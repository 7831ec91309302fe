-- How large an input may be.
use Rattle.std.specs.Prelude.{◌≤◌, length, All}
use Rattle.mg_word.specs.Facts.{InputData}
use Rattle.mg_word.specs.Table.{Symbol}
use Rattle.mg_word.specs.declared.clause.Clause.{Clause}

-- a clause within the limits
pub record IsSmallClause (clause : Clause) : Type 0 where
  pub literals : length clause.literals ≤ 64
  pub variables : length clause.variables ≤ 32
  -- no item has more positions than a clause has literals
  pub positions : All (λ item. length item ≤ 64) clause.conclude

-- no symbol has more arguments than a problem has bytes
abbrev pub IsSmallSymbol : Symbol → Type 0
IsSmallSymbol symbol = symbol.arity ≤ 16777216

-- an input within the limits
pub record IsBounded (input : InputData) : Type 0 where
  pub clauses : length input.clauses ≤ 20000
  pub each : All IsSmallClause input.clauses
  pub symbols : length input.symbols ≤ 16777216
  pub arities : All IsSmallSymbol input.symbols
