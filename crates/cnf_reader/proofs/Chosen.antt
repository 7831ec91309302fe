-- The variables and the choices of numbered literals are those of the literals that were read.
use Rattle.std.proofs.Common.{◌≡◌, ℕ, zero, suc, ◌+◌, ◌<◌, ◌≤◌, Bool, true, false, true≢false, ◌&&◌, nat_lt, if◌then◌else◌, List, [], ◌∷◌, ◌++◌, length, map, flat_map, Option, Some, None, slice_get, refl, sym, ap, ◌∙◌, arith}
use Rattle.std.specs.List.{list_all}
use Rattle.std.specs.Option.{option_map_or}
use Rattle.std.proofs.Math.Bool.{and_assoc}
use Rattle.std.proofs.lemmas.Bool.{and_parts, ltb-true}
use Rattle.std.proofs.lemmas.Option.{slice_get_within}
use Rattle.mg_word.specs.Table.{Symbol}
use Rattle.mg_word.specs.Words.{numbered}
use Rattle.mg_word.specs.Forms.{pattern_variables, conclusions_of}
use Rattle.mg_word.specs.Facts as facts
use Rattle.mg_word.specs.Facts.{is_choosable, are_choices}
use Rattle.mg_word.specs.declared.lit.PatLit.{PatLit}
use Rattle.mg_word.specs.declared.clause.ClauseLit.{ClauseLit}
use Rattle.mg_word.specs.declared.clause.ClauseLit.TheVariants.{True, False, Lit as Literal}
use Rattle.cnf_grammar.specs.Meaning.{Item, symbol_item, variable_item, ClauseLiteral, always, never, signed}
use Rattle.cnf_grammar.specs.Soundness.{item_variables, literal_variables}
use Rattle.cnf_grammar.specs.Conclude.{has_word_at, names_literal, are_conclusions_above}
use Rattle.cnf_reader.specs.Faults.{has_word}
use Rattle.cnf_reader.specs.Keeping.{entry_of, with_symbol, with_literal, numbered_items, numbered_literal, numbered_literals}

-- numbered items have the variables of those that were read
pub items_variables : (table : List Symbol) (items : List Item) → pattern_variables (numbered_items table items) ≡ flat_map item_variables items
items_variables table [] = refl
items_variables table (symbol_item symbol ∷ items) = items_variables (with_symbol table (entry_of symbol)) items
items_variables table (variable_item index ∷ items) = ap (λ more. index ∷ more) (items_variables table items)

literal_has : (table : List Symbol) (literal : ClauseLiteral) → facts.literal_variables (numbered_literal table literal) ≡ literal_variables literal
literal_has table always = refl
literal_has table never = refl
literal_has table (signed negative atom) = items_variables table atom

-- numbered literals have the variables of those that were read
pub literals_variables : (table : List Symbol) (literals : List ClauseLiteral) → flat_map facts.literal_variables (numbered_literals table literals) ≡ flat_map literal_variables literals
literals_variables table [] = refl
literals_variables table (literal ∷ literals) =
    ap (λ first. first ++ flat_map facts.literal_variables (numbered_literals (with_literal table literal) literals)) (literal_has table literal)
    ∙ ap (λ more. literal_variables literal ++ more) (literals_variables (with_literal table literal) literals)

-- there are as many of them
pub length_numbered : (table : List Symbol) (literals : List ClauseLiteral) → length (numbered_literals table literals) ≡ length literals
length_numbered table [] = refl
length_numbered table (literal ∷ literals) = ap suc (length_numbered (with_literal table literal) literals)

choosable_at : (table : List Symbol) (literals : List ClauseLiteral) (place : ℕ) → option_map_or is_choosable (slice_get (numbered_literals table literals) place) false ≡ has_word_at (map has_word literals) place
choosable_at table [] place = refl
choosable_at table (always ∷ literals) zero = refl
choosable_at table (never ∷ literals) zero = refl
choosable_at table (signed negative atom ∷ literals) zero = refl
choosable_at table (literal ∷ literals) (suc place) = choosable_at (with_literal table literal) literals place

choosable : (table : List Symbol) (literals : List ClauseLiteral) (number : ℕ) → option_map_or is_choosable (numbered (numbered_literals table literals) number) false ≡ names_literal (map has_word literals) number
choosable table literals zero = refl
choosable table literals (suc place) = choosable_at table literals place

-- conclusions of the literals that were read are choices of the numbered ones
pub chosen_same : (table : List Symbol) (literals : List ClauseLiteral) (chosen : List ℕ) (above : ℕ) → are_choices above (numbered_literals table literals) chosen ≡ are_conclusions_above (map has_word literals) above chosen
chosen_same table literals [] above = refl
chosen_same table literals (number ∷ chosen) above =
    let words = map has_word literals in
    ap (λ b. nat_lt above number && (b && are_choices number (numbered_literals table literals) chosen)) (choosable table literals number)
    ∙ (ap (λ b. nat_lt above number && (names_literal words number && b)) (chosen_same table literals chosen number)
    ∙ sym (and_assoc (nat_lt above number) (names_literal words number) (are_conclusions_above words number chosen)))

-- the same of all items
pub all_chosen_same : (table : List Symbol) (literals : List ClauseLiteral) (items : List (List ℕ)) → list_all (are_choices 0 (numbered_literals table literals)) items ≡ list_all (are_conclusions_above (map has_word literals) 0) items
all_chosen_same table literals [] = refl
all_chosen_same table literals (chosen ∷ items) =
    ap (λ b. b && list_all (are_choices 0 (numbered_literals table literals)) items) (chosen_same table literals chosen 0)
    ∙ ap (λ b. are_conclusions_above (map has_word literals) 0 chosen && b) (all_chosen_same table literals items)

within_by : (literals : List ClauseLit) (place : ℕ) (found : Option ClauseLit) → slice_get literals place ≡ found → option_map_or is_choosable found false ≡ true → suc place ≤ length literals
within_by literals place None is holds = absurd (true≢false (sym holds))
within_by literals place (Some literal) is holds = let below = slice_get_within literals place literal is in omega (arith, below)

within : (literals : List ClauseLit) (number : ℕ) → option_map_or is_choosable (numbered literals number) false ≡ true → number ≤ length literals
within literals zero holds = omega arith
within literals (suc place) holds = within_by literals place (slice_get literals place) refl holds

-- positions that rise are no more than the literals
pub few_chosen : (literals : List ClauseLit) (chosen : List ℕ) (above : ℕ) → above ≤ length literals → are_choices above literals chosen ≡ true → length chosen + above ≤ length literals
few_chosen literals [] above fits rises = omega arith
few_chosen literals (number ∷ chosen) above fits rises =
    let parts = and_parts (nat_lt above number) (option_map_or is_choosable (numbered literals number) false && are_choices number literals chosen) rises in
    let more = and_parts (option_map_or is_choosable (numbered literals number) false) (are_choices number literals chosen) parts.1 in
    let higher : above < number = ltb-true above number parts.0 in
    let behind : length chosen + number ≤ length literals = few_chosen literals chosen number (within literals number more.0) more.1 in
    omega arith

one_conclusion : (negative : Bool) (lit : PatLit) (lits : List PatLit) (count : ℕ) → length lits ≤ count → length (if negative then lits else lit ∷ lits) ≤ suc count
one_conclusion true lit lits count few = omega arith
one_conclusion false lit lits count few = omega arith

-- there are no more conclusions than literals
pub few_conclusions : (literals : List ClauseLit) → length (conclusions_of literals) ≤ length literals
few_conclusions [] = omega arith
few_conclusions (True ∷ literals) = let few = few_conclusions literals in omega arith
few_conclusions (False ∷ literals) = let few = few_conclusions literals in omega arith
few_conclusions (Literal lit ∷ literals) = one_conclusion lit.negative lit (conclusions_of literals) (length literals) (few_conclusions literals)
