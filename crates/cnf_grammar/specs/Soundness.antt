-- What holds of each clause that is read: its literals are whole atoms, and its variables are those that occur.
use Rattle.std.specs.Prelude.{ℕ, zero, suc, ◌+◌, ◌<◌, Bool, true, false, ◌&&◌, nat_eq, nat_lt, List, [], ◌∷◌, length, IsTrue}
use Rattle.std.specs.List.{list_all, flat_map}
use Rattle.mg_word.specs.Forms.{is_among}
use Rattle.mg_word.specs.Facts.{is_name_byte, is_plain_number}
use Rattle.cnf_grammar.specs.Shapes.{Shape, Lower, Quoted, Distinct, Number}
use Rattle.cnf_grammar.specs.Meaning.{Kind, word_kind, integer_kind, distinct_kind, Item, symbol_item, variable_item, ClauseLiteral, always, never, signed, ReadClause}

-- the items are so many terms one after another, in prefix order by the numbers of arguments of their symbols, over so many variables
abbrev pub are_terms : ℕ → ℕ → List Item → Bool
are_terms variables zero [] = true
are_terms variables zero (item ∷ items) = false
are_terms variables (suc wanted) [] = false
are_terms variables (suc wanted) (symbol_item symbol ∷ items) = are_terms variables (symbol.arity + wanted) items
are_terms variables (suc wanted) (variable_item index ∷ items) = nat_lt index variables && are_terms variables wanted items

-- the items begin with a symbol: what is one term of them is an atom, and no variable
abbrev pub begins_with_symbol : List Item → Bool
begins_with_symbol [] = false
begins_with_symbol (symbol_item symbol ∷ items) = true
begins_with_symbol (variable_item index ∷ items) = false

-- the literal is $true, $false, or one atom over so many variables
abbrev pub is_whole : ℕ → ClauseLiteral → Bool
is_whole variables always = true
is_whole variables never = true
is_whole variables (signed is_negative atom) = begins_with_symbol atom && are_terms variables 1 atom

-- the numbers of the variables of an item
abbrev pub item_variables : Item → List ℕ
item_variables (symbol_item symbol) = []
item_variables (variable_item index) = index ∷ []

-- the numbers of the variables of a literal
abbrev pub literal_variables : ClauseLiteral → List ℕ
literal_variables always = []
literal_variables never = []
literal_variables (signed is_negative atom) = flat_map item_variables atom

-- the name and the number of arguments are right for the kind
abbrev pub suits : Kind → List ℕ → ℕ → Bool
suits word_kind text arity = list_all is_name_byte text
suits integer_kind text arity = is_plain_number text && nat_eq arity 0
suits distinct_kind text arity = list_all is_name_byte text && nat_eq arity 0

-- the same of an item's symbol
abbrev pub item_suits : Item → Bool
item_suits (symbol_item symbol) = suits symbol.kind symbol.text symbol.arity
item_suits (variable_item index) = true

-- the same of each symbol of a literal
abbrev pub literal_suits : ClauseLiteral → Bool
literal_suits always = true
literal_suits never = true
literal_suits (signed is_negative atom) = list_all item_suits atom

-- the token has bytes that may stand in a name, and is a plain number where it says so
abbrev pub is_clean : Shape → Bool
is_clean (Lower text) = list_all is_name_byte text
is_clean (Quoted text) = list_all is_name_byte text
is_clean (Distinct text) = list_all is_name_byte text
is_clean (Number text true) = is_plain_number text
is_clean _ = true

-- what holds of each clause that a statement says
pub record IsSound (c : ReadClause) : Type 0 where
  pub whole : IsTrue (list_all (is_whole (length c.variables)) c.literals)
  -- each variable occurs in a literal
  pub occurring : (variable : ℕ) → variable < length c.variables → IsTrue (is_among (flat_map literal_variables c.literals) variable)
