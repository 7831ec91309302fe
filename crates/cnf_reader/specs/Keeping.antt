-- What is kept of the clauses read: their symbols, numbered by first occurrence, and themselves.
use Rattle.std.specs.Prelude.{ℕ, suc, Bool, cond, nat_le, List, [], ◌∷◌, ◌++◌, length, Option, if◌then◌else◌}
use Rattle.std.specs.List.{list_any}
use Rattle.mg_word.specs.Facts.{InputData}
use Rattle.mg_word.specs.Table.{Symbol, symbol_of}
use Rattle.mg_word.specs.SymbolLaws.{same_symbol}
use Rattle.mg_word.specs.declared.symbol.Kind.{Kind}
use Rattle.mg_word.specs.declared.symbol.Kind.TheVariants.{Word, Integer, Distinct}
use Rattle.mg_word.specs.declared.item.Item.{Item}
use Rattle.mg_word.specs.declared.item.Item.TheVariants.{Sym, Var}
use Rattle.mg_word.specs.declared.clause.Name.{Name}
use Rattle.mg_word.specs.declared.clause.Clause.{Clause}
use Rattle.mg_word.specs.declared.clause.ClauseLit.{ClauseLit}
use Rattle.mg_word.specs.declared.clause.ClauseLit.TheVariants.{True, False, Lit as Literal}
use Rattle.cnf_grammar.specs.Meaning.{Kind as SymbolKind, word_kind, integer_kind, distinct_kind, Symbol as ReadSymbol, Item as ReadItem, symbol_item, variable_item, ClauseLiteral, always, never, signed}
use Rattle.cnf_reader.specs.Faults.{is_selected, most_clauses}
use Rattle.cnf_reader.specs.declared.pending.Pending.{Pending}
use Rattle.cnf_reader.specs.declared.kept.Kept.{Kept}

abbrev pub kind_of : SymbolKind → Kind
kind_of word_kind = Word
kind_of integer_kind = Integer
kind_of distinct_kind = Distinct

-- the symbol of a table for one that was read
abbrev pub entry_of : ReadSymbol → Symbol
entry_of symbol = symbol_of symbol.text symbol.arity (kind_of symbol.kind)

-- the number of a symbol: its place in the table, or behind the last where it is new
abbrev pub number_in : List Symbol → Symbol → ℕ
number_in [] symbol = 0
number_in (other ∷ table) symbol = cond (same_symbol other symbol) 0 (suc (number_in table symbol))

-- the table with this symbol, which goes last where it is new
abbrev pub with_symbol : List Symbol → Symbol → List Symbol
with_symbol table symbol = cond (list_any (λ other. same_symbol other symbol) table) table (table ++ symbol ∷ [])

-- the table with the symbol of this item, if it is one
abbrev pub with_item : List Symbol → ReadItem → List Symbol
with_item table (symbol_item symbol) = with_symbol table (entry_of symbol)
with_item table (variable_item index) = table

-- the item with the number of its symbol
abbrev pub numbered_item : List Symbol → ReadItem → Item
numbered_item table (symbol_item symbol) = Sym (number_in table (entry_of symbol))
numbered_item table (variable_item index) = Var index

-- the table with the symbols of these items, in order
abbrev pub with_items : List Symbol → List ReadItem → List Symbol
with_items table [] = table
with_items table (item ∷ items) = with_items (with_item table item) items

-- the items with the numbers of their symbols
abbrev pub numbered_items : List Symbol → List ReadItem → List Item
numbered_items table [] = []
numbered_items table (item ∷ items) = numbered_item table item ∷ numbered_items (with_item table item) items

-- the table with the symbols of this literal
abbrev pub with_literal : List Symbol → ClauseLiteral → List Symbol
with_literal table always = table
with_literal table never = table
with_literal table (signed negative atom) = with_items table atom

-- the literal with the numbers of its symbols
abbrev pub numbered_literal : List Symbol → ClauseLiteral → ClauseLit
numbered_literal table always = True
numbered_literal table never = False
numbered_literal table (signed negative atom) = Literal (record { negative = negative; pattern = numbered_items table atom })

-- the table with the symbols of these literals, in order
abbrev pub with_literals : List Symbol → List ClauseLiteral → List Symbol
with_literals table [] = table
with_literals table (literal ∷ literals) = with_literals (with_literal table literal) literals

-- the literals with the numbers of their symbols
abbrev pub numbered_literals : List Symbol → List ClauseLiteral → List ClauseLit
numbered_literals table [] = []
numbered_literals table (literal ∷ literals) = numbered_literal table literal ∷ numbered_literals (with_literal table literal) literals

-- the clause of a statement in the file with this number
abbrev pub clause_of : List Symbol → ℕ → Pending → Clause
clause_of table file p = record {
  name = p.name;
  place = record { file = file; line = p.line; column = p.column };
  literals = numbered_literals table p.draft.literals;
  variables = p.draft.variables;
  conclude = p.conclude;
}

-- with one more clause
abbrev pub with_clause : Kept → ℕ → Pending → Kept
with_clause kept file p = record kept {
  symbols = with_literals kept.symbols p.draft.literals;
  clauses = kept.clauses ++ clause_of kept.symbols file p ∷ [];
}

-- a clause is kept where each of the nested selections has its name
unfoldable pub keep : List (Option (List Name)) → Kept → ℕ → Pending → Kept
keep selections kept file p = if is_selected selections p.name then with_clause kept file p else kept

-- as many clauses are kept as may be
abbrev pub is_full : Kept → Bool
is_full kept = nat_le most_clauses (length kept.clauses)

-- the input of what is kept
abbrev pub input_of : Kept → InputData
input_of kept = record { symbols = kept.symbols; files = kept.files; clauses = kept.clauses }
