-- Numbered literals stand for those that were read, in each table that continues the one with their symbols.
use Rattle.std.proofs.Common.{◌≡◌, List, [], ◌∷◌, ◌++◌, Some, slice_get, refl, ap, ◌∙◌, append_assoc}
use Rattle.std.specs.List.{AllZip}
use Rattle.mg_word.specs.Table.{Symbol}
use Rattle.cnf_grammar.specs.Meaning.{Item, symbol_item, variable_item, ClauseLiteral, always, never, signed}
use Rattle.cnf_reader.specs.Keeping.{entry_of, number_in, with_symbol, with_items, with_literal, with_literals, numbered_items, numbered_literal, numbered_literals}
use Rattle.cnf_reader.specs.Numbers.{StandsFor, LiteralStandsFor, LiteralsStandFor}
use Rattle.cnf_reader.proofs.Growing.{items_grow, literals_grow}
use Rattle.cnf_reader.proofs.Fitting.{still_there, there}

items_stand : (whole more : List Symbol) (items : List Item) (table : List Symbol) → whole ≡ with_items table items ++ more → AllZip (StandsFor whole) (numbered_items table items) items
items_stand whole more [] table is = tt
items_stand whole more (symbol_item symbol ∷ items) table is =
    let entry = entry_of symbol in
    let after = with_symbol table entry in
    let grown = items_grow after items in
    let longer : whole ≡ after ++ (grown.0 ++ more) = is ∙ (ap (λ t. t ++ more) grown.1 ∙ append_assoc after grown.0 more) in
    let at : slice_get whole (number_in table entry) ≡ Some entry =
    ap (λ t. slice_get t (number_in table entry)) longer ∙ still_there after (grown.0 ++ more) (number_in table entry) entry (there table entry) in
    (at, items_stand whole more items after is)
items_stand whole more (variable_item index ∷ items) table is = (refl, items_stand whole more items table is)

literal_stands : (whole more : List Symbol) (literal : ClauseLiteral) (table : List Symbol) → whole ≡ with_literal table literal ++ more → LiteralStandsFor whole (numbered_literal table literal) literal
literal_stands whole more always table is = tt
literal_stands whole more never table is = tt
literal_stands whole more (signed negative atom) table is = (refl, items_stand whole more atom table is)

-- numbered literals stand for those that were read, in each table that continues the one with their symbols
pub literals_stand : (whole more : List Symbol) (literals : List ClauseLiteral) (table : List Symbol) → whole ≡ with_literals table literals ++ more → LiteralsStandFor whole (numbered_literals table literals) literals
literals_stand whole more [] table is = tt
literals_stand whole more (literal ∷ literals) table is =
    let after = with_literal table literal in
    let grown = literals_grow after literals in
    let longer : whole ≡ after ++ (grown.0 ++ more) = is ∙ (ap (λ t. t ++ more) grown.1 ∙ append_assoc after grown.0 more) in
    (literal_stands whole (grown.0 ++ more) literal table longer, literals_stand whole more literals after is)
