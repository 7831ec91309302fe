-- The table of the names of a selection. No public clause cites this module.
use Rattle.std.specs.Prelude.{List, [], ◌∷◌}
use Rattle.mg_word.specs.Table.{Symbol, symbol_of}
use Rattle.mg_word.specs.declared.clause.Name.{Name}
use Rattle.cnf_reader.specs.Keeping.{with_symbol}

-- a name as a symbol without arguments
abbrev pub name_symbol : Name → Symbol
name_symbol name = symbol_of name.text 0 name.kind

-- the table with these names
abbrev pub with_names : List Symbol → List Name → List Symbol
with_names table [] = table
with_names table (name ∷ names) = with_names (with_symbol table (name_symbol name)) names

-- the table of these names
abbrev pub table_of : List Name → List Symbol
table_of names = with_names [] names
