-- What contracts see of a symbol table.
use Rattle.std.specs.Prelude.{ℕ, List}
use Rattle.mg_word.specs.declared.symbol.Kind.{Kind}

-- a symbol: a name, the number of its arguments, and a kind
pub record Symbol : Type 0 where
  pub name : List ℕ
  pub arity : ℕ
  pub kind : Kind

abbrev pub symbol_of : List ℕ → ℕ → Kind → Symbol
symbol_of name arity kind = record { name = name; arity = arity; kind = kind }
