-- What the code's draft of a clause is seen as.
use Rattle.std.specs.Prelude.{ℕ, Bool, cond, List, map, reverse}
use Rattle.cnf_grammar.specs.Meaning.{unquoted, Kind as SymbolKind, word_kind, integer_kind, distinct_kind, Symbol as ReadSymbol, Item, symbol_item, variable_item, ClauseLiteral, always, never, signed}
use Rattle.cnf_grammar.specs.Draft.{Draft}
use Rattle.mg_word.specs.declared.symbol.Kind.{Kind}
use Rattle.mg_word.specs.declared.symbol.Kind.TheVariants.{Word, Integer, Distinct}
use Rattle.cnf_reader.specs.declared.draft.RawSymbol.{RawSymbol}
use Rattle.cnf_reader.specs.declared.draft.RawItem.{RawItem}
use Rattle.cnf_reader.specs.declared.draft.RawItem.TheVariants.{Symbol, Variable}
use Rattle.cnf_reader.specs.declared.draft.RawLiteral.{RawLiteral}
use Rattle.cnf_reader.specs.declared.draft.RawLiteral.TheVariants.{Always, Never, Signed}
use Rattle.cnf_reader.specs.declared.draft.ClauseDraft.TheInside.{Inside}

-- the kind of a symbol as the grammar names it
abbrev pub kind_seen : Kind → SymbolKind
kind_seen Word = word_kind
kind_seen Integer = integer_kind
kind_seen Distinct = distinct_kind

-- the text of a name as written, without the quotes and escapes of a quoted form
abbrev pub text_seen : Bool → List ℕ → List ℕ
text_seen quoted text = cond quoted (unquoted text) text

-- a symbol that was read
abbrev pub symbol_seen : RawSymbol → ReadSymbol
symbol_seen symbol = record { kind = kind_seen symbol.kind; text = text_seen symbol.quoted symbol.text.now; arity = symbol.arity }

-- an item that was read
abbrev pub item_seen : RawItem → Item
item_seen (Symbol symbol) = symbol_item (symbol_seen symbol)
item_seen (Variable index) = variable_item index

-- a literal that was read
abbrev pub literal_seen : RawLiteral → ClauseLiteral
literal_seen Always = always
literal_seen Never = never
literal_seen (Signed negative atom) = signed negative (map item_seen atom.items)

-- the draft
abbrev pub draft_seen : Inside → Draft
draft_seen d = record {
  literals = map literal_seen d.literals.items;
  is_negative = d.is_negative;
  atom = map item_seen d.atom.items;
  open_words = reverse d.open_words.items;
  variables = d.variables;
}
