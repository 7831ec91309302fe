-- The list of symbols that the fields of a table stand for.
use Rattle.std.specs.Prelude.{◌<◌, ◌^◌, List, map, length, string_bytes}
use Rattle.mg_word.specs.Table.{Symbol}
use Rattle.mg_word.specs.declared.symbol.Entry.{Entry}
use Rattle.mg_word.specs.declared.symbol.Symbols.TheInside.{Inside}

abbrev pub entry_seen : Entry → Symbol
entry_seen entry = record { name = string_bytes entry.name; arity = entry.arity; kind = entry.kind }

-- by the order of first entry
abbrev pub symbols_seen : Inside → List Symbol
symbols_seen table = map entry_seen table.entries.keys

-- each number of a symbol fits 32 bits
abbrev pub IsTable : Inside → Type 0
IsTable table = length table.entries.keys < 2 ^ 32
