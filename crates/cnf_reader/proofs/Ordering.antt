-- New symbols come in the order in which the literals have them.
use Rattle.std.proofs.Common.{◌≡◌, Bool, List, [], ◌∷◌, ◌++◌, refl, sym, ap, ◌∙◌}
use Rattle.mg_word.specs.Table.{Symbol}
use Rattle.cnf_grammar.specs.Meaning.{Item, ClauseLiteral, signed}
use Rattle.cnf_reader.specs.Keeping.{with_item, with_items, with_literal, with_literals}
use Rattle.cnf_reader.proofs.Growing.{items_grow, literals_grow}

items_join : (table : List Symbol) (items more : List Item) → with_items table (items ++ more) ≡ with_items (with_items table items) more
items_join table [] more = refl
items_join table (item ∷ items) more = items_join (with_item table item) items more

literals_join : (table : List Symbol) (literals more : List ClauseLiteral) → with_literals table (literals ++ more) ≡ with_literals (with_literals table literals) more
literals_join table [] more = refl
literals_join table (literal ∷ literals) more = literals_join (with_literal table literal) literals more

-- the symbols of literals come before those of later ones
pub later_literals : (table : List Symbol) (literals more : List ClauseLiteral) → (rest : List Symbol) × (with_literals table (literals ++ more) ≡ with_literals table literals ++ rest)
later_literals table literals more =
    let grown = literals_grow (with_literals table literals) more in
    (grown.0, literals_join table literals more ∙ grown.1)

-- and within a literal those of its first items before those of later ones
pub later_items : (table : List Symbol) (literals : List ClauseLiteral) (negative : Bool) (atom more : List Item)
    → (rest : List Symbol) × (with_literals table (literals ++ signed negative (atom ++ more) ∷ []) ≡ with_literals table (literals ++ signed negative atom ∷ []) ++ rest)
later_items table literals negative atom more =
    let before = with_literals table literals in
    let grown = items_grow (with_items before atom) more in
    (grown.0, literals_join table literals (signed negative (atom ++ more) ∷ []) ∙ (items_join before atom more ∙ (grown.1 ∙ ap (λ t. t ++ grown.0) (sym (literals_join table literals (signed negative atom ∷ []))))))
