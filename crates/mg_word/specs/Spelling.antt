-- The one spelling of symbols, words and literals, as bytes.
use Rattle.std.specs.Prelude.{ℕ, zero, suc, ◌+◌, Bool, true, ◌&&◌, ◌||◌, nat_eq, nat_lt, List, [], ◌∷◌, ◌++◌, map, length, Option, Some, slice_get, if◌then◌else◌}
use Rattle.std.specs.List.{list_all, flat_map}
use Rattle.std.specs.Option.{option_map, option_to_list}
use Rattle.std.specs.Fmt.{decimal}
use Rattle.ascii_text.specs.Bytes.{begins}
pub use Rattle.ascii_text.specs.Bytes.{is_lower_letter, is_upper_letter, is_word_byte}
use Rattle.mg_word.specs.Table.{Symbol}
use Rattle.mg_word.specs.declared.symbol.Kind.{Kind}
use Rattle.mg_word.specs.declared.symbol.Kind.TheVariants.{Word, Integer, Distinct}
use Rattle.mg_word.specs.declared.item.Item.{Item}
use Rattle.mg_word.specs.declared.item.Item.TheVariants.{Sym, Var}
use Rattle.mg_word.specs.declared.lit.Lit.{Lit}
use Rattle.mg_word.specs.declared.lit.PatLit.{PatLit}

-- it begins with a lower-case letter
abbrev pub begins_lower : List ℕ → Bool
begins_lower name = begins is_lower_letter name

-- a lower-case letter, and then letters, digits and `_`
abbrev pub is_lower_word : List ℕ → Bool
is_lower_word name = begins_lower name && list_all is_word_byte name

-- a byte between quotes: the quote and a backslash have a backslash before them
abbrev pub escaped : ℕ → ℕ → List ℕ
escaped quote byte = if nat_eq byte quote || nat_eq byte 92 then 92 ∷ byte ∷ [] else byte ∷ []

-- a name between such quotes
abbrev pub quoted : ℕ → List ℕ → List ℕ
quoted quote name = quote ∷ (flat_map (escaped quote) name ++ quote ∷ [])

-- a name as its kind is written: words bare or between single quotes, texts between double quotes
abbrev pub spelled_name : Kind → List ℕ → List ℕ
spelled_name Word name = if is_lower_word name then name else quoted 39 name
spelled_name Integer name = name
spelled_name Distinct name = quoted 34 name

-- the spelling of a symbol, and the number of arguments that follow it
pub record Piece : Type 0 where
  pub text : List ℕ
  pub arity : ℕ

-- The open brackets are listed from the innermost out, each with the number of its arguments that
-- come after the present one.

-- behind a finished argument: a comma where another one follows, else its bracket is closed, and so on
abbrev pub closing : List ℕ → List ℕ
closing [] = []
closing (zero ∷ brackets) = 41 ∷ closing brackets
closing (suc more ∷ brackets) = 44 ∷ []

-- the brackets that are open then
abbrev pub still_open : List ℕ → List ℕ
still_open [] = []
still_open (zero ∷ brackets) = still_open brackets
still_open (suc more ∷ brackets) = more ∷ brackets

-- behind a symbol with so many arguments: a bracket is opened, or the symbol is a finished argument
abbrev pub behind : ℕ → List ℕ → List ℕ
behind zero brackets = closing brackets
behind (suc more) brackets = 40 ∷ []

abbrev pub open_behind : ℕ → List ℕ → List ℕ
open_behind zero brackets = still_open brackets
open_behind (suc more) brackets = more ∷ brackets

-- pieces in prefix order, within these brackets
abbrev pub spelled_within : List ℕ → List Piece → List ℕ
spelled_within brackets [] = []
spelled_within brackets (piece ∷ pieces) =
    piece.text ++ (behind piece.arity brackets ++ spelled_within (open_behind piece.arity brackets) pieces)

abbrev pub symbol_piece : Symbol → Piece
symbol_piece symbol = record { text = spelled_name symbol.kind symbol.name; arity = symbol.arity }

-- a term or atom whose symbols are these, in prefix order
abbrev pub spelled_symbols : List Symbol → List ℕ
spelled_symbols symbols = spelled_within [] (map symbol_piece symbols)

-- the symbols of a word
abbrev pub symbols_at : List Symbol → List ℕ → List Symbol
symbols_at table word = flat_map (λ symbol. option_to_list (slice_get table symbol)) word

-- a word over a table
abbrev pub spelled : List Symbol → List ℕ → List ℕ
spelled table word = spelled_symbols (symbols_at table word)

-- `~` before an atom that is negated
abbrev pub spelled_sign : Bool → List ℕ
spelled_sign negative = if negative then 126 ∷ [] else []

-- a literal over a table
abbrev pub spelled_lit : List Symbol → Lit → List ℕ
spelled_lit table lit = spelled_sign lit.negative ++ spelled table lit.word

-- a variable is printed as `X` and its number counted from 1
abbrev pub variable_piece : ℕ → Piece
variable_piece variable = record { text = 88 ∷ decimal (variable + 1); arity = 0 }

-- the piece of an item, if the table has its symbol
abbrev pub item_piece : List Symbol → Item → Option Piece
item_piece table (Sym symbol) = option_map symbol_piece (slice_get table symbol)
item_piece table (Var variable) = Some (variable_piece variable)

abbrev pub item_pieces : List Symbol → List Item → List Piece
item_pieces table items = flat_map (λ item. option_to_list (item_piece table item)) items

-- the item is a variable or a symbol of the table
abbrev pub is_known_item : List Symbol → Item → Bool
is_known_item table (Sym symbol) = nat_lt symbol (length table)
is_known_item table (Var variable) = true

-- a pattern over a table
abbrev pub spelled_pattern : List Symbol → List Item → List ℕ
spelled_pattern table items = spelled_within [] (item_pieces table items)

-- a literal with variables over a table
abbrev pub spelled_pattern_lit : List Symbol → PatLit → List ℕ
spelled_pattern_lit table lit = spelled_sign lit.negative ++ spelled_pattern table lit.pattern
