-- What holds of a clause that may be kept, and of what is kept. No public clause cites this module.
use Rattle.std.specs.Prelude.{◌≢◌, ℕ, ◌+◌, ◌<◌, ◌≤◌, List, [], ◌∷◌, length, map, Option, Some, None, All, AllPairs, IsTrue}
use Rattle.std.specs.List.{list_all, flat_map}
use Rattle.mg_word.specs.Facts.{is_name_byte, is_symbol, IsClause}
use Rattle.mg_word.specs.Forms.{is_among}
use Rattle.cnf_grammar.specs.Meaning.{Item, symbol_item, variable_item, ClauseLiteral, always, never, signed}
use Rattle.cnf_grammar.specs.Conclude.{are_conclusions_above}
use Rattle.cnf_grammar.specs.Soundness.{is_whole, literal_variables, literal_suits}
use Rattle.cnf_reader.specs.Bounds.{IsSmallClause, IsSmallSymbol}
use Rattle.cnf_reader.specs.Faults.{has_word, most_clauses, most_literals, most_variables}
use Rattle.mg_word.specs.declared.clause.Name.{Name}
use Rattle.cnf_reader.specs.declared.pending.Asked.{Asked}
use Rattle.cnf_reader.specs.declared.pending.Pending.{Pending}
use Rattle.cnf_reader.specs.declared.kept.Kept.{Kept}

-- the items of a literal
abbrev pub atom_of : ClauseLiteral → List Item
atom_of always = []
atom_of never = []
atom_of (signed is_negative atom) = atom

-- how many items these literals have
abbrev pub count_items : List ClauseLiteral → ℕ
count_items [] = 0
count_items (literal ∷ literals) = length (atom_of literal) + count_items literals

-- the symbol has no more than so many arguments
abbrev pub HasFew : ℕ → Item → Type 0
HasFew most (symbol_item symbol) = symbol.arity ≤ most
HasFew most (variable_item index) = Unit {0}

-- each symbol of the literal has no more than so many arguments
abbrev pub IsNarrow : ℕ → ClauseLiteral → Type 0
IsNarrow most literal = All (HasFew most) (atom_of literal)

-- the statement under way holds a clause within the limits
pub record IsLimited (taken : ℕ) (p : Pending) : Type 0 where
  pub literals : length p.draft.literals ≤ most_literals
  pub variables : length p.draft.variables ≤ most_variables
  -- of so many tokens there are no more items, and no symbol has more arguments
  pub items : count_items p.draft.literals ≤ taken
  pub arities : All (IsNarrow taken) p.draft.literals
  -- each item chooses literals that have a word, by numbers that rise
  pub choices : IsTrue (list_all (are_conclusions_above (map has_word p.draft.literals) 0) p.conclude)

-- the statement holds a clause that may be kept
pub record IsReady (p : Pending) : Type 0 where
  pub taken : ℕ
  pub few : taken ≤ 16777216
  pub limited : IsLimited taken p
  pub whole : IsTrue (list_all (is_whole (length p.draft.variables)) p.draft.literals)
  pub occurring : (variable : ℕ) → variable < length p.draft.variables → IsTrue (is_among (flat_map literal_variables p.draft.literals) variable)
  pub suiting : IsTrue (list_all literal_suits p.draft.literals)

-- what is kept can be an input, within the limits
pub record IsSoundKept (kept : Kept) : Type 0 where
  pub named : IsTrue (list_all is_symbol kept.symbols)
  pub different : AllPairs (λ a b. a ≢ b) kept.symbols
  pub arities : All IsSmallSymbol kept.symbols
  pub each : All (IsClause kept.symbols (length kept.files)) kept.clauses
  pub small : All IsSmallClause kept.clauses
  pub few : length kept.clauses ≤ most_clauses

-- names of clauses have bytes that may stand in names
abbrev pub AreNames : List Name → Type 0
AreNames names = IsTrue (list_all (λ name. list_all is_name_byte name.text) names)

-- the same of the names of a selection, which are no more than that
abbrev pub AreFewNames : ℕ → Option (List Name) → Type 0
AreFewNames most None = Unit {0}
AreFewNames most (Some names) = AreNames names × (length names ≤ most)

-- what is asked for has names of such bytes, no more than so many
pub record AsksByName (most : ℕ) (asked : Asked) : Type 0 where
  pub file : IsTrue (list_all is_name_byte asked.file)
  pub names : AreFewNames most asked.names
