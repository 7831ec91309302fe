-- Whole literals fit the table with their symbols, and each table that continues it.
use Rattle.std.proofs.Common.{◌≡◌, ℕ, zero, suc, ◌+◌, Bool, true, false, true≢false, ◌&&◌, nat_lt, List, [], ◌∷◌, ◌++◌, Option, Some, None, slice_get, refl, sym, ap, ◌∙◌, append_assoc}
use Rattle.std.specs.List.{list_all}
use Rattle.std.specs.Option.{option_map_or}
use Rattle.std.proofs.lemmas.Bool.{and_parts}
use Rattle.mg_word.specs.Table.{Symbol}
use Rattle.mg_word.specs.Words.{are_patterns}
use Rattle.mg_word.specs.Facts.{literal_fits, has_atom}
use Rattle.mg_word.specs.declared.item.Item.{Item}
use Rattle.mg_word.specs.declared.item.Item.TheVariants.{Sym, Var}
use Rattle.mg_word.specs.declared.clause.ClauseLit.{ClauseLit}
use Rattle.mg_word.specs.declared.clause.ClauseLit.TheVariants.{True, False, Lit as Literal}
use Rattle.cnf_grammar.specs.Meaning.{Item as ReadItem, symbol_item, variable_item, ClauseLiteral, always, never, signed}
use Rattle.cnf_grammar.specs.Soundness.{begins_with_symbol, are_terms, is_whole}
use Rattle.cnf_reader.specs.Keeping.{entry_of, number_in, with_symbol, with_items, with_literal, with_literals, numbered_items, numbered_literal, numbered_literals}
use Rattle.cnf_reader.proofs.Numbering.{has, found, missing, last_is}
use Rattle.cnf_reader.proofs.Growing.{items_grow, literals_grow}

-- a symbol that a table has stays at its place in a longer one
pub still_there : (table more : List Symbol) (number : ℕ) (symbol : Symbol) → slice_get table number ≡ Some symbol → slice_get (table ++ more) number ≡ Some symbol
still_there [] more number symbol is = cc
still_there (first ∷ table) more zero symbol is = is
still_there (first ∷ table) more (suc number) symbol is = still_there table more number symbol is

there_by : (b : Bool) (table : List Symbol) (symbol : Symbol) → has table symbol ≡ b → slice_get (with_symbol table symbol) (number_in table symbol) ≡ Some symbol
there_by true table symbol test = rw test (found table symbol test)
there_by false table symbol test = rw test (ap (λ n. slice_get (table ++ symbol ∷ []) n) (missing table symbol test) ∙ last_is table symbol)

-- the number of a symbol is its place in the table with it
pub there : (table : List Symbol) (symbol : Symbol) → slice_get (with_symbol table symbol) (number_in table symbol) ≡ Some symbol
there table symbol = there_by (has table symbol) table symbol refl

-- terms that were read are patterns of each table that continues the one with their symbols
pub terms_fit : (variables : ℕ) (whole more : List Symbol) (items : List ReadItem) (wanted : ℕ) (table : List Symbol) → whole ≡ with_items table items ++ more → are_terms variables wanted items ≡ true
    → are_patterns whole variables wanted (numbered_items table items) ≡ true
terms_fit variables whole more [] zero table is terms = refl
terms_fit variables whole more [] (suc wanted) table is terms = terms
terms_fit variables whole more (item ∷ items) zero table is terms = absurd (true≢false (sym terms))
terms_fit variables whole more (symbol_item symbol ∷ items) (suc wanted) table is terms =
    let entry = entry_of symbol in
    let after = with_symbol table entry in
    let grown = items_grow after items in
    let longer : whole ≡ after ++ (grown.0 ++ more) = is ∙ (ap (λ t. t ++ more) grown.1 ∙ append_assoc after grown.0 more) in
    let at : slice_get whole (number_in table entry) ≡ Some entry =
    ap (λ t. slice_get t (number_in table entry)) longer ∙ still_there after (grown.0 ++ more) (number_in table entry) entry (there table entry) in
    ap (λ o. option_map_or (λ (found : Symbol). are_patterns whole variables (found.arity + wanted) (numbered_items after items)) o false) at
    ∙ terms_fit variables whole more items (symbol.arity + wanted) after is terms
terms_fit variables whole more (variable_item index ∷ items) (suc wanted) table is terms =
    let parts = and_parts (nat_lt index variables) (are_terms variables wanted items) terms in
    ap (λ b. b && are_patterns whole variables wanted (numbered_items table items)) parts.0 ∙ terms_fit variables whole more items wanted table is parts.1

literal_fit : (variables : ℕ) (whole more : List Symbol) (literal : ClauseLiteral) (table : List Symbol) → whole ≡ with_literal table literal ++ more → is_whole variables literal ≡ true
    → literal_fits whole variables (numbered_literal table literal) ≡ true
literal_fit variables whole more always table is holds = refl
literal_fit variables whole more never table is holds = refl
literal_fit variables whole more (signed negative atom) table is holds =
    terms_fit variables whole more atom 1 table is (and_parts (begins_with_symbol atom) (are_terms variables 1 atom) holds).1

-- whole literals fit each table that continues the one with their symbols
pub literals_fit : (variables : ℕ) (whole more : List Symbol) (literals : List ClauseLiteral) (table : List Symbol) → whole ≡ with_literals table literals ++ more → list_all (is_whole variables) literals ≡ true
    → list_all (literal_fits whole variables) (numbered_literals table literals) ≡ true
literals_fit variables whole more [] table is holds = refl
literals_fit variables whole more (literal ∷ literals) table is holds =
    let parts = and_parts (is_whole variables literal) (list_all (is_whole variables) literals) holds in
    let after = with_literal table literal in
    let grown = literals_grow after literals in
    let longer : whole ≡ after ++ (grown.0 ++ more) = is ∙ (ap (λ t. t ++ more) grown.1 ∙ append_assoc after grown.0 more) in
    ap (λ b. b && list_all (literal_fits whole variables) (numbered_literals after literals)) (literal_fit variables whole (grown.0 ++ more) literal table longer parts.0)
    ∙ literals_fit variables whole more literals after is parts.1

-- what a pattern's symbol finds is found in a longer table
stays_by : (table more : List Symbol) (number : ℕ) (test after : Symbol → Bool) → ((symbol : Symbol) → test symbol ≡ true → after symbol ≡ true) → (found : Option Symbol) → slice_get table number ≡ found → option_map_or test found false ≡ true
    → option_map_or after (slice_get (table ++ more) number) false ≡ true
stays_by table more number test after step None is holds = absurd (true≢false (sym holds))
stays_by table more number test after step (Some symbol) is holds = ap (λ o. option_map_or after o false) (still_there table more number symbol is) ∙ step symbol holds

-- patterns stay patterns of a longer table
pub patterns_stay : (table more : List Symbol) (variables : ℕ) (items : List Item) (wanted : ℕ) → are_patterns table variables wanted items ≡ true → are_patterns (table ++ more) variables wanted items ≡ true
patterns_stay table more variables [] zero fits = refl
patterns_stay table more variables [] (suc wanted) fits = fits
patterns_stay table more variables (item ∷ items) zero fits = absurd (true≢false (sym fits))
patterns_stay table more variables (Sym number ∷ items) (suc wanted) fits =
    stays_by table more number (λ symbol. are_patterns table variables (symbol.arity + wanted) items) (λ symbol. are_patterns (table ++ more) variables (symbol.arity + wanted) items)
    (λ symbol. patterns_stay table more variables items (symbol.arity + wanted)) (slice_get table number) refl fits
patterns_stay table more variables (Var index ∷ items) (suc wanted) fits =
    let parts = and_parts (nat_lt index variables) (are_patterns table variables wanted items) fits in
    ap (λ b. b && are_patterns (table ++ more) variables wanted items) parts.0 ∙ patterns_stay table more variables items wanted parts.1

literal_stays : (table more : List Symbol) (variables : ℕ) (literal : ClauseLit) → literal_fits table variables literal ≡ true → literal_fits (table ++ more) variables literal ≡ true
literal_stays table more variables True fits = refl
literal_stays table more variables False fits = refl
literal_stays table more variables (Literal lit) fits = patterns_stay table more variables lit.pattern 1 fits

-- literals that fit a table fit a longer one
pub literals_stay : (table more : List Symbol) (variables : ℕ) (literals : List ClauseLit) → list_all (literal_fits table variables) literals ≡ true → list_all (literal_fits (table ++ more) variables) literals ≡ true
literals_stay table more variables [] fits = refl
literals_stay table more variables (literal ∷ literals) fits =
    let parts = and_parts (literal_fits table variables literal) (list_all (literal_fits table variables) literals) fits in
    ap (λ b. b && list_all (literal_fits (table ++ more) variables) literals) (literal_stays table more variables literal parts.0) ∙ literals_stay table more variables literals parts.1

literal_has_atom : (variables : ℕ) (literal : ClauseLiteral) (table : List Symbol) → is_whole variables literal ≡ true → has_atom (numbered_literal table literal) ≡ true
literal_has_atom variables always table holds = refl
literal_has_atom variables never table holds = refl
literal_has_atom variables (signed negative []) table holds = holds
literal_has_atom variables (signed negative (symbol_item symbol ∷ items)) table holds = refl
literal_has_atom variables (signed negative (variable_item index ∷ items)) table holds = holds

-- whole literals are atoms with signs, and none of them is a variable
pub literals_have_atoms : (variables : ℕ) (literals : List ClauseLiteral) (table : List Symbol) → list_all (is_whole variables) literals ≡ true → list_all has_atom (numbered_literals table literals) ≡ true
literals_have_atoms variables [] table holds = refl
literals_have_atoms variables (literal ∷ literals) table holds =
    let parts = and_parts (is_whole variables literal) (list_all (is_whole variables) literals) holds in
    let after = with_literal table literal in
    ap (λ b. b && list_all has_atom (numbered_literals after literals)) (literal_has_atom variables literal table parts.0) ∙ literals_have_atoms variables literals after parts.1
