-- The faults at the tokens of a file, a constructor for each row of their table. A token stands behind the tokens `own` of its statement, that is, behind
-- the last dot; what the file and the run hold by then is how many clauses are kept, and the selections under which the file is read.
use Rattle.std.specs.Prelude.{◌≡◌, ◌≢◌, ℕ, ◌+◌, ◌≤◌, List, [], ◌∷◌, ◌++◌, Bool, true, false, Option, Some, None, Contains, codes, length, map, filter_map, count_by, IsTrue}
use Rattle.std.specs.List.{list_all}
use Rattle.mg_word.specs.declared.clause.Name.{Name}
use Rattle.cnf_grammar.specs.Shapes.{Shape, Lower, Upper, Distinct, Dollar, Number as Numeral, NotEqual, Punct, left_round, right_round, comma, bar, tilde, is_mark}
use Rattle.cnf_grammar.specs.Spelling.{name_token, IsFront}
use Rattle.cnf_grammar.specs.Trees as trees
use Rattle.cnf_grammar.specs.Table.{start}
use Rattle.cnf_grammar.specs.Laws.{IsFirstFault}
use Rattle.cnf_grammar.specs.Conclude.{gives_conclusions, BreaksConcludeItem, are_conclusions_above}
use Rattle.cnf_grammar.specs.Gathering.{Gathered, gathered, gather_from}
use Rattle.cnf_grammar.specs.Meaning.{ReadClause, each_once}
use Rattle.cnf_reader.specs.declared.fault.ReadKind.{ReadKind}
use Rattle.cnf_reader.specs.declared.fault.ReadKind.TheVariants.{Expected, Role, NotCnf, Equality, Number, Defined, BadConclude, TooManyClauses, TooManyLiterals, TooManyVariables, TooDeep}
use Rattle.cnf_reader.specs.Faults.{name_of, is_selected, has_word}

-- the words of the TPTP that begin a statement in another language
abbrev pub other_languages : List (List ℕ)
other_languages = codes "fof" ∷ (codes "tff" ∷ (codes "thf" ∷ (codes "tcf" ∷ (codes "tpi" ∷ []))))

-- the roles that are accepted
abbrev pub accepted_roles : List (List ℕ)
accepted_roles =
    codes "axiom" ∷ (codes "hypothesis" ∷ (codes "definition" ∷ (codes "assumption" ∷ (codes "lemma" ∷ (codes "theorem" ∷ (codes "corollary" ∷ (codes "negated_conjecture" ∷ (codes "plain" ∷ []))))))))

-- the token may come behind these
abbrev pub MayCome : List Shape → Shape → Type 0
MayCome own s = IsFront (own ++ s ∷ [])

-- the tokens end in an annotation: != may come there, and nowhere else
abbrev pub IsInAnnotation : List Shape → Type 0
IsInAnnotation own = MayCome own NotEqual

-- an atom may come, outside of annotations
pub record AtomBegins (own : List Shape) : Type 0 where
  pub may : MayCome own (Dollar (codes "$true"))
  pub apart : IsInAnnotation own → ⊥

-- a term may come, outside of annotations
pub record TermBegins (own : List Shape) : Type 0 where
  pub may : MayCome own (Upper (codes "X"))
  pub apart : IsInAnnotation own → ⊥

-- a literal may come, outside of annotations
pub record LiteralBegins (own : List Shape) : Type 0 where
  pub may : MayCome own (Punct tilde)
  pub apart : IsInAnnotation own → ⊥

-- two more arguments
abbrev pub two_arguments : List Shape
two_arguments = Punct comma ∷ (Upper (codes "X") ∷ (Punct comma ∷ (Upper (codes "X") ∷ [])))

-- outside of annotations the tokens end with an atom, behind which a bar may come, or with an argument, behind which two more may
pub data TermEnds (own : List Shape) : Type 0 where
  behind_atom : MayCome own (Punct bar) → (IsInAnnotation own → ⊥) → TermEnds own
  behind_argument : IsFront (own ++ two_arguments) → (IsInAnnotation own → ⊥) → TermEnds own

-- the token can only begin an equation where an atom begins: a variable, a number or a distinct object
pub data BeginsEquation : Shape → Type 0 where
  by_variable : (text : List ℕ) → BeginsEquation (Upper text)
  by_number : (text : List ℕ) (plain : Bool) → BeginsEquation (Numeral text plain)
  by_distinct : (text : List ℕ) → BeginsEquation (Distinct text)

-- = or !=
pub data IsEquality : Shape → Type 0 where
  equal : IsEquality (Punct 61)
  not_equal : IsEquality NotEqual

-- how many of the tokens are this mark
abbrev pub count_marks : ℕ → List Shape → ℕ
count_marks byte own = count_by (is_mark byte) own

-- the text of a variable
abbrev pub variable_text : Shape → Option (List ℕ)
variable_text (Upper text) = Some text
variable_text _ = None

-- the variables among the tokens, each time that one occurs
abbrev pub variables_in : List Shape → List (List ℕ)
variables_in own = filter_map variable_text own

-- what the tokens of a statement under way say so far
abbrev pub said_by : List Shape → Gathered
said_by own = gather_from (Some start) (gathered []) own

-- which of the clause's literals have a word for their atom
abbrev pub words_in : List Shape → List Bool
words_in own = map has_word (said_by own).formula.literals

-- the tokens of the info's item under way
abbrev pub item_in : List Shape → List Shape
item_in own = (said_by own).item

-- cnf(
abbrev pub clause_front : List Shape
clause_front = Lower (codes "cnf") ∷ (Punct left_round ∷ [])

-- the rows that name a kind
pub data Row (clauses : ℕ) (selections : List (Option (List Name))) (own : List Shape) : Shape → ReadKind → Type 0 where
  -- the first token of a statement is a word that begins one in another language
  other_language : (text : List ℕ) → own ≡ [] → Contains other_languages text → Row clauses selections own (Lower text) NotCnf
  -- the role is none of those that are accepted
  other_role : (name : trees.Name) (text : List ℕ) → own ≡ clause_front ++ (name_token name ∷ (Punct comma ∷ [])) → (Contains accepted_roles text → ⊥) → Row clauses selections own (Lower text) Role
  -- = or != behind an atom or a term
  behind_term : (s : Shape) → IsEquality s → TermEnds own → Row clauses selections own s Equality
  -- what can only begin an equation, where an atom must begin
  before_equation : (s : Shape) → BeginsEquation s → AtomBegins own → Row clauses selections own s Equality
  -- a number that is not plain, where a term must begin
  not_plain : (text : List ℕ) → TermBegins own → Row clauses selections own (Numeral text false) Number
  -- a word with a dollar sign, where a term must begin
  dollar_term : (text : List ℕ) → TermBegins own → Row clauses selections own (Dollar text) Defined
  -- and where an atom must begin, but for $true and $false
  dollar_atom : (text : List ℕ) → AtomBegins own → text ≢ codes "$true" → text ≢ codes "$false" → Row clauses selections own (Dollar text) Defined
  -- the first token of an item that gives conclusions by which no end of it can be right
  broken_item : (s : Shape) → gives_conclusions (item_in own) ≡ true → item_in (own ++ s ∷ []) ≡ item_in own ++ s ∷ [] → BreaksConcludeItem (words_in own) (item_in own) s → Row clauses selections own s BadConclude
  -- the name of the 20,001st clause that is kept
  clause_20001 : (s : Shape) → own ≡ clause_front → MayCome own s → 20000 ≤ clauses → is_selected selections (name_of s) ≡ true → Row clauses selections own s TooManyClauses
  -- the first token of the 65th literal: a literal may come behind the 64th bar
  literal_65 : (s : Shape) → MayCome own s → LiteralBegins own → 64 ≤ count_marks bar own → Row clauses selections own s TooManyLiterals
  -- the 33rd different variable
  variable_33 : (text : List ℕ) → MayCome own (Upper text) → (IsInAnnotation own → ⊥) → 32 ≤ length (each_once (variables_in own)) → (Contains (variables_in own) text → ⊥) → Row clauses selections own (Upper text) TooManyVariables
  -- the round bracket that would be the 101st open in the formula, apart from that of the clause
  bracket_101 : MayCome own (Punct left_round) → (IsInAnnotation own → ⊥) → count_marks right_round own + 101 ≤ count_marks left_round own → Row clauses selections own (Punct left_round) TooDeep

-- a fault stands at the token: by a row that names its kind, or, where none does, because it cannot come
pub data FaultAt (clauses : ℕ) (selections : List (Option (List Name))) (own : List Shape) (s : Shape) : ReadKind → Type 0 where
  by_row : (kind : ReadKind) → Row clauses selections own s kind → FaultAt clauses selections own s kind
  cannot_come : IsFirstFault own s → ((kind : ReadKind) → Row clauses selections own s kind → ⊥) → FaultAt clauses selections own s Expected

-- no fault stands at any of these tokens of a statement
abbrev pub NoFaultAt : ℕ → List (Option (List Name)) → List Shape → Type 0
NoFaultAt clauses selections own = (before more : List Shape) (s : Shape) (kind : ReadKind) → own ≡ before ++ s ∷ more → FaultAt clauses selections before s kind → ⊥

-- a clause, kept or not, with an accepted role, within the limits, whose items choose literals that have a word, by numbers that rise
pub record KeepsRules (c : ReadClause) : Type 0 where
  pub role : Contains accepted_roles c.role
  pub literals : length c.literals ≤ 64
  pub variables : length c.variables ≤ 32
  pub items : IsTrue (list_all (are_conclusions_above (map has_word c.literals) 0) c.conclude)
