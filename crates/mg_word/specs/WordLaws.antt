-- What terms and sets of literals are, said without a count of wanted terms and without an insertion.
use Rattle.std.specs.Prelude.{◌≡◌, ℕ, ◌↔◌, List, ◌∷◌, length, Some, slice_get, Contains, IsTrue}
use Rattle.std.specs.List.{list_all, concat}
use Rattle.mg_word.specs.Table.{Symbol}
use Rattle.mg_word.specs.Words.{fits}
use Rattle.mg_word.specs.Sets.{holds, is_rising, set_of}
use Rattle.mg_word.specs.declared.lit.Lit.{Lit}

-- a symbol of the table, and behind it as many terms as it has arguments
pub record IsApplied (table : List Symbol) (word : List ℕ) : Type 0 where
  pub number : ℕ
  pub symbol : Symbol
  pub arguments : List (List ℕ)
  pub held : slice_get table number ≡ Some symbol
  pub many : length arguments ≡ symbol.arity
  pub terms : IsTrue (list_all (fits table) arguments)
  pub joined : word ≡ number ∷ concat arguments

-- a word fits a table exactly where it is one of its symbols with its arguments, each of which fits
abbrev pub WordsAreApplied : Type 0
WordsAreApplied = (table : List Symbol) (word : List ℕ) → IsTrue (fits table word) ↔ IsApplied table word

-- the set of a list rises and has the list's literals and no other
pub record IsSetOf (set lits : List Lit) : Type 0 where
  pub rising : IsTrue (is_rising set)
  pub same : (lit : Lit) → Contains set lit ↔ Contains lits lit
  pub told : (lit : Lit) → IsTrue (holds set lit) ↔ Contains set lit

abbrev pub SetsHoldTheirLits : Type 0
SetsHoldTheirLits = (lits : List Lit) → IsSetOf (set_of lits) lits
