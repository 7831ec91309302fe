-- What the numbers of symbols stand for: the symbols that were read, wherever a table has them.
use Rattle.std.specs.Prelude.{◌≡◌, Bool, List, ◌++◌, Some, slice_get, All, Contains}
use Rattle.std.specs.List.{AllZip}
use Rattle.mg_word.specs.Table.{Symbol}
use Rattle.mg_word.specs.declared.item.Item.{Item}
use Rattle.mg_word.specs.declared.item.Item.TheVariants.{Sym, Var}
use Rattle.mg_word.specs.declared.clause.ClauseLit.{ClauseLit}
use Rattle.mg_word.specs.declared.clause.ClauseLit.TheVariants.{True, False, Lit as Literal}
use Rattle.cnf_grammar.specs.Meaning.{Symbol as ReadSymbol, Item as ReadItem, symbol_item, variable_item, ClauseLiteral, always, never, signed}
use Rattle.cnf_reader.specs.Keeping.{entry_of}

-- the number is that of the symbol which was read: the table has its name, arity and kind there; a variable is the same
abbrev pub StandsFor : List Symbol → Item → ReadItem → Type 0
StandsFor table (Sym number) (symbol_item symbol) = slice_get table number ≡ Some (entry_of symbol)
StandsFor table (Var index) (variable_item read) = index ≡ read
StandsFor table _ _ = ⊥

-- the same constant, or the same sign before items that stand in turn for those which were read
abbrev pub LiteralStandsFor : List Symbol → ClauseLit → ClauseLiteral → Type 0
LiteralStandsFor table True always = Unit {0}
LiteralStandsFor table False never = Unit {0}
LiteralStandsFor table (Literal lit) (signed is_negative atom) = (lit.negative ≡ is_negative) × AllZip (StandsFor table) lit.pattern atom
LiteralStandsFor table _ _ = ⊥

-- the literals stand in turn for those which were read
abbrev pub LiteralsStandFor : List Symbol → List ClauseLit → List ClauseLiteral → Type 0
LiteralsStandFor table literals read = AllZip (LiteralStandsFor table) literals read

-- the symbol is one that the literals have
pub record OccursIn (literals : List ClauseLiteral) (symbol : Symbol) : Type 0 where
  pub is_negative : Bool
  pub atom : List ReadItem
  pub read : ReadSymbol
  pub literal : Contains literals (signed is_negative atom)
  pub item : Contains atom (symbol_item read)
  pub same : symbol ≡ entry_of read

-- the table goes on, with symbols of the literals alone
pub record GoesOnBy (literals : List ClauseLiteral) (table after : List Symbol) : Type 0 where
  pub more : List Symbol
  pub goes_on : after ≡ table ++ more
  pub occurring : All (OccursIn literals) more
