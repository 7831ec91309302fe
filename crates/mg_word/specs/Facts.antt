-- What contracts see of an input and of a problem, and the facts that their types keep.
use Rattle.std.specs.Prelude.{◌≡◌, ◌≢◌, ℕ, ◌<◌, ◌≤◌, Bool, true, false, ◌&&◌, nat_eq, nat_lt, nat_le, List, [], ◌∷◌, length, All, AllPairs, IsTrue, IsSorted}
use Rattle.std.specs.List.{list_all, flat_map}
use Rattle.std.specs.Option.{option_map_or}
use Rattle.ascii_text.specs.Bytes.{is_printable}
pub use Rattle.ascii_text.specs.Bytes.{is_digit}
pub use Rattle.ascii_text.specs.Numbers.{is_plain_number}
use Rattle.mg_word.specs.Table.{Symbol}
use Rattle.mg_word.specs.SymbolOrder.{symbol_cmp}
use Rattle.mg_word.specs.Words.{pattern_fits, numbered}
use Rattle.mg_word.specs.Forms.{conclusions_of, forms_of, is_among, is_restricted, pattern_variables}
use Rattle.mg_word.specs.declared.limits.TheConstants.{MOST_ITEMS, MOST_CONCLUSIONS, MOST_FORMS}
use Rattle.mg_word.specs.declared.symbol.Kind.{Kind}
use Rattle.mg_word.specs.declared.symbol.Kind.TheVariants.{Word, Integer, Distinct}
use Rattle.mg_word.specs.declared.item.Item.{Item}
use Rattle.mg_word.specs.declared.item.Item.TheVariants.{Sym, Var}
use Rattle.mg_word.specs.declared.clause.ClauseLit.{ClauseLit}
use Rattle.mg_word.specs.declared.clause.ClauseLit.TheVariants.{True, False, Lit as Literal}
use Rattle.mg_word.specs.declared.clause.Clause.{Clause}
use Rattle.mg_word.specs.declared.form.Form.{Form}
use Rattle.mg_word.specs.declared.lit.PatLit.{PatLit}

-- an input: its symbols, the names of the files read, and its clauses
pub record InputData : Type 0 where
  pub symbols : List Symbol
  pub files : List (List ℕ)
  pub clauses : List Clause

-- a problem: an input with its forms
pub record ProblemData : Type 0 where
  pub symbols : List Symbol
  pub files : List (List ℕ)
  pub clauses : List Clause
  pub forms : List Form

-- the byte may stand in a name
abbrev pub is_name_byte : ℕ → Bool
is_name_byte byte = is_printable byte

-- the name and the arity are right for the kind
abbrev pub suits : Kind → List ℕ → ℕ → Bool
suits Word name arity = list_all is_name_byte name
suits Integer name arity = is_plain_number name && nat_eq arity 0
suits Distinct name arity = list_all is_name_byte name && nat_eq arity 0

abbrev pub is_symbol : Symbol → Bool
is_symbol symbol = suits symbol.kind symbol.name symbol.arity

-- the literal fits the symbols, with so many variables
abbrev pub literal_fits : List Symbol → ℕ → ClauseLit → Bool
literal_fits table variables True = true
literal_fits table variables False = true
literal_fits table variables (Literal lit) = pattern_fits table variables lit.pattern

-- the pattern begins with a symbol, so that it is an atom and no variable
abbrev pub begins_with_symbol : List Item → Bool
begins_with_symbol [] = false
begins_with_symbol (Sym symbol ∷ items) = true
begins_with_symbol (Var variable ∷ items) = false

-- the literal is `$true`, `$false`, or an atom with a sign
abbrev pub has_atom : ClauseLit → Bool
has_atom True = true
has_atom False = true
has_atom (Literal lit) = begins_with_symbol lit.pattern

abbrev pub literal_variables : ClauseLit → List ℕ
literal_variables True = []
literal_variables False = []
literal_variables (Literal lit) = pattern_variables lit.pattern

-- the literal may be chosen as a conclusion
abbrev pub is_choosable : ClauseLit → Bool
is_choosable True = false
is_choosable False = false
is_choosable (Literal lit) = true

-- strictly rising positions of literals that may be chosen, each above that one
abbrev pub are_choices : ℕ → List ClauseLit → List ℕ → Bool
are_choices above literals [] = true
are_choices above literals (at ∷ chosen) =
    nat_lt above at && (option_map_or is_choosable (numbered literals at) false && are_choices at literals chosen)

-- the most clauses, and the most literals and variables of a clause
abbrev pub most_parts : ℕ
most_parts = 33554432

-- the most conclusions that a form may have
abbrev pub most_conclusions : ℕ
most_conclusions = MOST_CONCLUSIONS

-- what holds of each clause over so many files
pub record IsClause (table : List Symbol) (files : ℕ) (clause : Clause) : Type 0 where
  -- its literals fit the symbols, and its variables are those below their number
  pub fitting : IsTrue (list_all (literal_fits table (length clause.variables)) clause.literals)
  -- none of its literals is a variable
  pub atoms : IsTrue (list_all has_atom clause.literals)
  -- each variable is in a literal
  pub occurring : (variable : ℕ) → variable < length clause.variables → IsTrue (is_among (flat_map literal_variables clause.literals) variable)
  -- each item chooses literals in written order
  pub choices : IsTrue (list_all (are_choices 0 clause.literals) clause.conclude)
  -- neither its plain form nor an item gives more conclusions than a form may have
  pub positives : length (conclusions_of clause.literals) ≤ most_conclusions
  pub positions : All (λ chosen. length chosen ≤ most_conclusions) clause.conclude
  pub place : clause.place.file < files
  pub literals : length clause.literals ≤ most_parts
  pub variables : length clause.variables ≤ most_parts

-- what holds of the symbols, the files and the clauses of each input
pub record IsInput (table : List Symbol) (files : List (List ℕ)) (clauses : List Clause) : Type 0 where
  pub named : IsTrue (list_all is_symbol table)
  -- no two of its symbols are one
  pub different : AllPairs (λ a b. a ≢ b) table
  pub each : All (IsClause table (length files)) clauses
  pub few : length clauses ≤ most_parts

-- the most symbols and variables of a literal, counted together, and the most forms
abbrev pub most_items : ℕ
most_items = MOST_ITEMS

abbrev pub most_forms : ℕ
most_forms = MOST_FORMS

-- the literal has few enough symbols and variables
abbrev pub is_light_lit : PatLit → Bool
is_light_lit lit = nat_le (length lit.pattern) most_items

-- the form has few enough conclusions
abbrev pub IsNarrow : Form → Type 0
IsNarrow form = length form.conclusions ≤ most_conclusions

-- each literal of the form has
abbrev pub is_light_form : Form → Bool
is_light_form form = list_all is_light_lit form.premises && list_all is_light_lit form.conclusions

-- what holds of each problem
pub record IsProblem (problem : ProblemData) : Type 0 where
  pub input : IsInput problem.symbols problem.files problem.clauses
  -- its forms are those of its clauses
  pub formed : problem.forms ≡ forms_of problem.clauses
  -- each of its forms is range restricted
  pub restricted : IsTrue (list_all is_restricted problem.forms)
  pub narrow : All IsNarrow problem.forms
  -- its symbols stand in symbol order
  pub ordered : IsSorted symbol_cmp problem.symbols
  -- no literal of a form is too heavy
  pub light : IsTrue (list_all is_light_form problem.forms)
  pub few_forms : length problem.forms ≤ most_forms
