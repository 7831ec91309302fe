-- A table only grows by the symbols of literals, and by no more than they have items.
use Rattle.std.proofs.Common.{◌≡◌, ℕ, ◌+◌, ◌≤◌, Bool, true, false, cond, List, [], ◌∷◌, ◌++◌, length, refl, sym, ap, ◌∙◌, arith, append_assoc, append-nil, length-append}
use Rattle.mg_word.specs.Table.{Symbol}
use Rattle.cnf_grammar.specs.Meaning.{Item, symbol_item, variable_item, ClauseLiteral, always, never, signed}
use Rattle.cnf_reader.specs.Keeping.{entry_of, with_symbol, with_item, with_items, with_literal, with_literals}
use Rattle.cnf_reader.specs.Sound.{atom_of, count_items}
use Rattle.cnf_reader.proofs.Numbering.{has}

-- the table with no more than so many further symbols
abbrev pub Grows : List Symbol → List Symbol → ℕ → Type 0
Grows table after most = (more : List Symbol) × (after ≡ table ++ more) × (length more ≤ most)

same_table : (table : List Symbol) (most : ℕ) → Grows table table most
same_table table most = ([], sym (append-nil table), omega arith)

joined : (table between after : List Symbol) (first second most : ℕ) → Grows table between first → Grows between after second → first + second ≤ most → Grows table after most
joined table between after first second most one two fits =
    let one_few : length one.0 ≤ first = one.2 in
    let two_few : length two.0 ≤ second = two.2 in
    (one.0 ++ two.0, two.1 ∙ (ap (λ t. t ++ two.0) one.1 ∙ append_assoc table one.0 two.0), omega (arith, length-append one.0 two.0))

by_one : (b : Bool) (table : List Symbol) (symbol : Symbol) → Grows table (cond b table (table ++ symbol ∷ [])) 1
by_one true table symbol = same_table table 1
by_one false table symbol = (symbol ∷ [], refl, omega arith)

-- one symbol is at most one more
pub symbol_grows : (table : List Symbol) (symbol : Symbol) → Grows table (with_symbol table symbol) 1
symbol_grows table symbol = by_one (has table symbol) table symbol

-- one item is at most one more
pub item_grows : (table : List Symbol) (item : Item) → Grows table (with_item table item) 1
item_grows table (symbol_item symbol) = symbol_grows table (entry_of symbol)
item_grows table (variable_item index) = same_table table 1

-- items are at most as many more as they are
pub items_grow : (table : List Symbol) (items : List Item) → Grows table (with_items table items) (length items)
items_grow table [] = same_table table 0
items_grow table (item ∷ items) =
    joined table (with_item table item) (with_items (with_item table item) items) 1 (length items) (length (item ∷ items)) (item_grows table item) (items_grow (with_item table item) items) (omega arith)

-- a literal is at most as many more as it has items
pub literal_grows : (table : List Symbol) (literal : ClauseLiteral) → Grows table (with_literal table literal) (length (atom_of literal))
literal_grows table always = same_table table 0
literal_grows table never = same_table table 0
literal_grows table (signed negative atom) = items_grow table atom

-- literals are at most as many more as they have items
pub literals_grow : (table : List Symbol) (literals : List ClauseLiteral) → (more : List Symbol) × (with_literals table literals ≡ table ++ more) × (length more ≤ count_items literals)
literals_grow table [] = same_table table 0
literals_grow table (literal ∷ literals) =
    joined table (with_literal table literal) (with_literals (with_literal table literal) literals) (length (atom_of literal)) (count_items literals) (count_items (literal ∷ literals))
    (literal_grows table literal) (literals_grow (with_literal table literal) literals) (omega arith)

grown_length : (table after : List Symbol) (most : ℕ) → Grows table after most → length after ≤ length table + most
grown_length table after most grown =
    let few : length grown.0 ≤ most = grown.2 in
    rw grown.1 (omega (arith, length-append table grown.0))

-- a literal adds no more symbols than it has items
pub literal_count : (table : List Symbol) (literal : ClauseLiteral) → length (with_literal table literal) ≤ length table + length (atom_of literal)
literal_count table literal = grown_length table (with_literal table literal) (length (atom_of literal)) (literal_grows table literal)

-- literals add no more symbols than they have items
pub literals_count : (table : List Symbol) (literals : List ClauseLiteral) → length (with_literals table literals) ≤ length table + count_items literals
literals_count table literals = grown_length table (with_literals table literals) (count_items literals) (literals_grow table literals)
