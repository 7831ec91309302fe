-- The literals of a clause under way: what each token of its formula adds to them.
use Rattle.std.specs.Prelude.{ℕ, zero, suc, pred, Bool, true, false, cond, ◌==◌, List, [], ◌∷◌, ◌++◌, map, length, codes, bytes_eq}
use Rattle.cnf_grammar.specs.declared.state.State.{State}
use Rattle.cnf_grammar.specs.declared.state.State.TheVariants.{FormulaStart, LiteralStart, AtomStart, WordRead, TermStart, TermRead}
use Rattle.cnf_grammar.specs.Shapes.{Shape, Lower, Upper, Quoted, Distinct, Dollar, Number, Punct, left_round, comma, tilde, is_mark}
use Rattle.cnf_grammar.specs.Trees.{Formula}
use Rattle.cnf_grammar.specs.Conclude.{literals_of}
use Rattle.cnf_grammar.specs.Meaning.{unquoted, Kind, word_kind, integer_kind, distinct_kind, Item, symbol_item, variable_item, variables_of, index_of, ClauseLiteral, always, never, signed, clause_literal}

-- what was read of a formula so far
pub record Draft : Type 0 where
  -- the literals that are whole
  pub literals : List ClauseLiteral
  -- whether ~ stands before the atom under way
  pub is_negative : Bool
  -- the atom under way in prefix order, where each symbol has the arguments that have begun; empty where none is under way
  pub atom : List Item
  -- the positions in the atom of the words whose arguments are open, the innermost first
  pub open_words : List ℕ
  -- the variables so far, in order of first occurrence
  pub variables : List (List ℕ)

-- nothing was read
abbrev pub empty_draft : Draft
empty_draft = record { literals = []; is_negative = false; atom = []; open_words = []; variables = [] }

-- whether the variable was read before
abbrev pub has_text : List (List ℕ) → List ℕ → Bool
has_text [] text = false
has_text (other ∷ more) text = cond (bytes_eq other text) true (has_text more text)

-- the variables with this one, which is the last where it is new
abbrev pub with_variable : List (List ℕ) → List ℕ → List (List ℕ)
with_variable variables text = cond (has_text variables text) variables (variables ++ text ∷ [])

-- the atom with one more symbol or variable
abbrev pub push_item : Item → Draft → Draft
push_item item d = record d { atom = d.atom ++ item ∷ [] }

-- the atom with one more symbol, of which no argument has begun
abbrev pub push_symbol : Kind → List ℕ → Draft → Draft
push_symbol kind text d = push_item (symbol_item (record { kind = kind; text = text; arity = 0 })) d

-- the atom with one more variable
abbrev pub push_variable : List ℕ → Draft → Draft
push_variable text d = record d {
  atom = d.atom ++ variable_item (index_of (with_variable d.variables text) text) ∷ [];
  variables = with_variable d.variables text;
}

-- one more argument of the symbol at this position
abbrev pub add_argument : ℕ → List Item → List Item
add_argument position [] = []
add_argument zero (symbol_item symbol ∷ items) = symbol_item (record symbol { arity = suc symbol.arity }) ∷ items
add_argument zero (variable_item index ∷ items) = variable_item index ∷ items
add_argument (suc position) (item ∷ items) = item ∷ add_argument position items

-- the word at the end opens its arguments, and the first begins
abbrev pub first_argument : Draft → Draft
first_argument d = record d {
  atom = add_argument (pred (length d.atom)) d.atom;
  open_words = pred (length d.atom) ∷ d.open_words;
}

-- a further argument of the innermost of these words begins
abbrev pub next_argument_of : List ℕ → Draft → Draft
next_argument_of [] d = d
next_argument_of (position ∷ outer) d = record d { atom = add_argument position d.atom }

-- a further argument begins
abbrev pub next_argument : Draft → Draft
next_argument d = next_argument_of d.open_words d

-- the innermost of these words closes its arguments
abbrev pub close_words : List ℕ → Draft → Draft
close_words [] d = d
close_words (position ∷ outer) d = record d { open_words = outer }

-- the innermost open word closes its arguments
abbrev pub close_arguments : Draft → Draft
close_arguments d = close_words d.open_words d

-- the literal of $true or $false
abbrev pub constant : Bool → Bool → ClauseLiteral
constant true false = always
constant true true = never
constant false false = never
constant false true = always

-- a literal whose atom is $true or $false
abbrev pub push_constant : Bool → Draft → Draft
push_constant truth d = record d { literals = d.literals ++ constant truth d.is_negative ∷ []; is_negative = false }

-- the literal of this atom is whole, if one is under way
abbrev pub finish_atom : List Item → Draft → Draft
finish_atom [] d = d
finish_atom (item ∷ items) d = record d { literals = d.literals ++ signed d.is_negative (item ∷ items) ∷ []; is_negative = false; atom = [] }

-- the literal under way is whole, if there is one
abbrev pub finish : Draft → Draft
finish d = finish_atom d.atom d

-- what a token adds where a formula, a literal or an atom must begin
abbrev pub begin_literal : Shape → Draft → Draft
begin_literal (Lower text) d = push_symbol word_kind text d
begin_literal (Quoted text) d = push_symbol word_kind (unquoted text) d
begin_literal (Dollar text) d = push_constant (bytes_eq text (codes "$true")) d
begin_literal (Punct byte) d = cond (byte == tilde) (record d { is_negative = true }) d
begin_literal _ d = d

-- what a token adds where a term must begin
abbrev pub begin_term : Shape → Draft → Draft
begin_term (Upper text) d = push_variable text d
begin_term (Number text plain) d = push_symbol integer_kind text d
begin_term (Distinct text) d = push_symbol distinct_kind (unquoted text) d
begin_term (Lower text) d = push_symbol word_kind text d
begin_term (Quoted text) d = push_symbol word_kind (unquoted text) d
begin_term _ d = d

-- what a token adds behind a term with so many brackets of arguments open round it, or behind an atom
abbrev pub end_term : ℕ → Shape → Draft → Draft
end_term zero s d = finish d
end_term (suc depth) s d = cond (is_mark comma s) (next_argument d) (close_arguments d)

-- what a token adds behind a word
abbrev pub end_word : ℕ → Shape → Draft → Draft
end_word depth s d = cond (is_mark left_round s) (first_argument d) (end_term depth s d)

-- what a token adds
abbrev pub collect_at : State → ℕ → Shape → Draft → Draft
collect_at FormulaStart depth s d = begin_literal s d
collect_at LiteralStart depth s d = begin_literal s d
collect_at AtomStart depth s d = begin_literal s d
collect_at WordRead depth s d = end_word depth s d
collect_at TermStart depth s d = begin_term s d
collect_at TermRead depth s d = end_term depth s d
collect_at _ depth s d = d

-- the literals and variables of a formula, whole
abbrev pub draft_of : Formula → Draft
draft_of formula = record empty_draft { literals = map (clause_literal (variables_of formula)) (literals_of formula); variables = variables_of formula }
