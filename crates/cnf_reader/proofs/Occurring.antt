-- A table goes on with symbols of the literals alone, and stays one of different symbols.
use Rattle.std.proofs.Common.{◌≡◌, ◌≢◌, ℕ, ◌<◌, Bool, true, false, true≢false, cond, List, [], ◌∷◌, ◌++◌, length, get_or, All, AllPairs, Contains, refl, sym, ap, ◌∙◌, arith, append_assoc, append-nil}
use Rattle.std.proofs.lemmas.List.{get_or_default}
use Rattle.std.proofs.lemmas.List.Elements.{All-nil, All-cons, All-append, Contains-append_right}
use Rattle.std.proofs.lemmas.List.Quantifiers.{all_pairs_push}
use Rattle.mg_word.specs.Table.{Symbol}
use Rattle.cnf_grammar.specs.Meaning.{Symbol as ReadSymbol, Item, symbol_item, variable_item, ClauseLiteral, always, never, signed}
use Rattle.cnf_reader.specs.Keeping.{entry_of, with_symbol, with_items, with_literal, with_literals}
use Rattle.cnf_reader.specs.Numbers.{OccursIn, GoesOnBy}
use Rattle.cnf_reader.proofs.Numbering.{has, held_if}

module _ (P : Symbol → Type 0) where
  -- the table goes on with symbols of which P holds
  abbrev GoesOn : List Symbol → List Symbol → Type 0
  GoesOn table after = (more : List Symbol) × (after ≡ table ++ more) × All P more

  stays : (table : List Symbol) → GoesOn table table
  stays table = ([], sym (append-nil table), All-nil P)

  joined : (table between after : List Symbol) → GoesOn table between → GoesOn between after → GoesOn table after
  joined table between after one two = (one.0 ++ two.0, two.1 ∙ (ap (λ t. t ++ two.0) one.1 ∙ append_assoc table one.0 two.0), All-append P one.0 two.0 one.2 two.2)

  by_one : (b : Bool) (table : List Symbol) (symbol : Symbol) → P symbol → GoesOn table (cond b table (table ++ symbol ∷ []))
  by_one true table symbol holds = stays table
  by_one false table symbol holds = (symbol ∷ [], refl, All-cons P symbol [] holds (All-nil P))

  by_items : (items : List Item) (table : List Symbol) → ((symbol : ReadSymbol) → Contains items (symbol_item symbol) → P (entry_of symbol)) → GoesOn table (with_items table items)
  by_items [] table holds = stays table
  by_items (symbol_item symbol ∷ items) table holds =
      joined table (with_symbol table (entry_of symbol)) (with_items (with_symbol table (entry_of symbol)) items)
      (by_one (has table (entry_of symbol)) table (entry_of symbol) (holds symbol (0, omega arith, refl)))
      (by_items items (with_symbol table (entry_of symbol)) (λ other inside. holds other (Contains-append_right (symbol_item symbol ∷ []) items (symbol_item other) inside)))
  by_items (variable_item index ∷ items) table holds = by_items items table (λ other inside. holds other (Contains-append_right (variable_item index ∷ []) items (symbol_item other) inside))

  by_literal : (literal : ClauseLiteral) (table : List Symbol) → ((negative : Bool) (atom : List Item) (symbol : ReadSymbol) → literal ≡ signed negative atom → Contains atom (symbol_item symbol) → P (entry_of symbol))
      → GoesOn table (with_literal table literal)
  by_literal always table holds = stays table
  by_literal never table holds = stays table
  by_literal (signed negative atom) table holds = by_items atom table (λ symbol inside. holds negative atom symbol refl inside)

  -- where P holds of the symbols of literals, the table with them goes on with symbols of which it holds
  by_literals : (literals : List ClauseLiteral) (table : List Symbol)
      → ((negative : Bool) (atom : List Item) (symbol : ReadSymbol) → Contains literals (signed negative atom) → Contains atom (symbol_item symbol) → P (entry_of symbol)) → GoesOn table (with_literals table literals)
  by_literals [] table holds = stays table
  by_literals (literal ∷ literals) table holds =
      joined table (with_literal table literal) (with_literals (with_literal table literal) literals)
      (by_literal literal table (λ negative atom symbol same inside. holds negative atom symbol (0, omega arith, same) inside))
      (by_literals literals (with_literal table literal) (λ negative atom symbol here inside. holds negative atom symbol (Contains-append_right (literal ∷ []) literals (signed negative atom) here) inside))

-- the table with the symbols of literals goes on with symbols of these alone
pub goes_on : (table : List Symbol) (literals : List ClauseLiteral) → GoesOnBy literals table (with_literals table literals)
goes_on table literals =
    let on = by_literals (OccursIn literals) literals table
    (λ negative atom symbol here inside. record { is_negative = negative; atom = atom; read = symbol; literal = here; item = inside; same = refl }) in
    record { more = on.0; goes_on = on.1; occurring = on.2 }

-- all are different
abbrev AreDifferent : List Symbol → Type 0
AreDifferent table = AllPairs (λ a b. a ≢ b) table

different_by : (b : Bool) (table : List Symbol) (symbol : Symbol) → has table symbol ≡ b → AreDifferent table → AreDifferent (cond b table (table ++ symbol ∷ []))
different_by true table symbol test different = different
different_by false table symbol test different = all_pairs_push (λ a b. a ≢ b) table symbol different new
  where
    new : (k : ℕ) (d : Symbol) → k < length table → get_or table k d ≢ symbol
    new k d within same = true≢false (sym (held_if table symbol (k, within, get_or_default table k symbol d within ∙ same)) ∙ test)

different_items : (items : List Item) (table : List Symbol) → AreDifferent table → AreDifferent (with_items table items)
different_items [] table different = different
different_items (symbol_item symbol ∷ items) table different = different_items items (with_symbol table (entry_of symbol)) (different_by (has table (entry_of symbol)) table (entry_of symbol) refl different)
different_items (variable_item index ∷ items) table different = different_items items table different

different_literal : (literal : ClauseLiteral) (table : List Symbol) → AreDifferent table → AreDifferent (with_literal table literal)
different_literal always table different = different
different_literal never table different = different
different_literal (signed negative atom) table different = different_items atom table different

-- where the symbols of a table are all different, so are those of the table with the symbols of literals
pub different_literals : (literals : List ClauseLiteral) (table : List Symbol) → AllPairs (λ a b. a ≢ b) table → AllPairs (λ a b. a ≢ b) (with_literals table literals)
different_literals [] table different = different
different_literals (literal ∷ literals) table different = different_literals literals (with_literal table literal) (different_literal literal table different)
