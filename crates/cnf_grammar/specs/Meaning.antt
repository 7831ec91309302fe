-- What a statement says: names, literals with their symbols and variables, conclusions, files.
use Rattle.std.specs.Prelude.{ℕ, suc, ◌-◌, Bool, true, false, cond, not, ◌==◌, List, [], ◌∷◌, ◌++◌, Option, Some, None, map, filter, flat_map, length, take, drop, bytes_eq}
pub use Rattle.mg_word.specs.declared.symbol.Kind.{Kind}
pub use Rattle.mg_word.specs.declared.symbol.Kind.TheVariants.{Word as word_kind, Integer as integer_kind, Distinct as distinct_kind}
pub use Rattle.mg_word.specs.declared.clause.Name.{Name as Named}
use Rattle.cnf_grammar.specs.Trees.{Word, bare_word, quoted_word, Name, word_name, number_name, FileName, bare_file, quoted_file, Term, variable, number, distinct, compound, Arguments, no_arguments, arguments, Terms, no_terms, then_term, Atom, truth, falsity, predicate, Literal, positive, negative, Formula, Annotations, Selection, every_clause, selected, Statement, clause, include}
use Rattle.cnf_grammar.specs.Conclude.{literals_of, conclusions_of}

-- the bytes behind a backslash that may still be open, with one byte for each pair that a backslash begins
abbrev pub unescaped : Bool → List ℕ → List ℕ
unescaped escaped [] = []
unescaped true (byte ∷ bytes) = byte ∷ unescaped false bytes
unescaped false (byte ∷ bytes) = cond (byte == 92) (unescaped true bytes) (byte ∷ unescaped false bytes)

-- a quoted form without its quotes and escapes
abbrev pub unquoted : List ℕ → List ℕ
unquoted text = unescaped false (take (length text - 2) (drop 1 text))

-- the text of a word: bare and in quotes it is the same
abbrev pub word_text : Word → List ℕ
word_text (bare_word text) = text
word_text (quoted_word text) = unquoted text

-- the name of a clause
abbrev pub named : Name → Named
named (word_name word) = record { kind = word_kind; text = word_text word }
named (number_name text) = record { kind = integer_kind; text = text }

-- a symbol, by its name and its number of arguments
pub record Symbol : Type 0 where
  pub kind : Kind
  pub text : List ℕ
  pub arity : ℕ

-- a term or an atom in prefix order: symbols, and variables by number
pub data Item : Type 0 where
  symbol_item : Symbol → Item
  variable_item : (index : ℕ) → Item

-- how many terms
abbrev pub count_terms : Terms → ℕ
count_terms no_terms = 0
count_terms (then_term term more) = suc (count_terms more)

-- how many arguments
abbrev pub count_arguments : Arguments → ℕ
count_arguments no_arguments = 0
count_arguments (arguments first more) = suc (count_terms more)

-- the symbol of a word with these arguments
abbrev pub symbol_of : Word → Arguments → Symbol
symbol_of word args = record { kind = word_kind; text = word_text word; arity = count_arguments args }

abbrev mutual
  -- the variables of a term, each time that they occur
  pub variables_of_term : Term → List (List ℕ)
  variables_of_term (variable text) = text ∷ []
  variables_of_term (number text) = []
  variables_of_term (distinct text) = []
  variables_of_term (compound word args) = variables_of_arguments args

  -- the variables of arguments
  pub variables_of_arguments : Arguments → List (List ℕ)
  variables_of_arguments no_arguments = []
  variables_of_arguments (arguments first more) = variables_of_term first ++ variables_of_terms more

  -- the variables of terms
  pub variables_of_terms : Terms → List (List ℕ)
  variables_of_terms no_terms = []
  variables_of_terms (then_term term more) = variables_of_term term ++ variables_of_terms more

-- the variables of an atom
abbrev pub variables_of_atom : Atom → List (List ℕ)
variables_of_atom truth = []
variables_of_atom falsity = []
variables_of_atom (predicate word args) = variables_of_arguments args

-- the variables of a literal
abbrev pub variables_of_literal : Literal → List (List ℕ)
variables_of_literal (positive atom) = variables_of_atom atom
variables_of_literal (negative atom) = variables_of_atom atom

-- each text once, in order of first occurrence
abbrev pub each_once : List (List ℕ) → List (List ℕ)
each_once [] = []
each_once (text ∷ more) = text ∷ filter (λ other. not (bytes_eq text other)) (each_once more)

-- the variables of a clause, in order of first occurrence in its literals
abbrev pub variables_of : Formula → List (List ℕ)
variables_of formula = each_once (flat_map variables_of_literal (literals_of formula))

-- the number of a variable: its position among those of the clause, from 0
abbrev pub index_of : List (List ℕ) → List ℕ → ℕ
index_of [] text = 0
index_of (other ∷ more) text = cond (bytes_eq other text) 0 (suc (index_of more text))

abbrev mutual
  -- a term in prefix order, where the clause has these variables
  pub items_of_term : List (List ℕ) → Term → List Item
  items_of_term variables (variable text) = variable_item (index_of variables text) ∷ []
  items_of_term variables (number text) = symbol_item (record { kind = integer_kind; text = text; arity = 0 }) ∷ []
  items_of_term variables (distinct text) = symbol_item (record { kind = distinct_kind; text = unquoted text; arity = 0 }) ∷ []
  items_of_term variables (compound word args) = symbol_item (symbol_of word args) ∷ items_of_arguments variables args

  -- arguments in prefix order
  pub items_of_arguments : List (List ℕ) → Arguments → List Item
  items_of_arguments variables no_arguments = []
  items_of_arguments variables (arguments first more) = items_of_term variables first ++ items_of_terms variables more

  -- terms in prefix order
  pub items_of_terms : List (List ℕ) → Terms → List Item
  items_of_terms variables no_terms = []
  items_of_terms variables (then_term term more) = items_of_term variables term ++ items_of_terms variables more

-- a literal of a clause: one that always holds, one that never holds, or an atom with its sign
pub data ClauseLiteral : Type 0 where
  always : ClauseLiteral
  never : ClauseLiteral
  signed : (is_negative : Bool) (atom : List Item) → ClauseLiteral

-- a literal as the clause has it
abbrev pub clause_literal : List (List ℕ) → Literal → ClauseLiteral
clause_literal variables (positive truth) = always
clause_literal variables (positive falsity) = never
clause_literal variables (positive (predicate word args)) = signed false (symbol_item (symbol_of word args) ∷ items_of_arguments variables args)
clause_literal variables (negative truth) = never
clause_literal variables (negative falsity) = always
clause_literal variables (negative (predicate word args)) = signed true (symbol_item (symbol_of word args) ∷ items_of_arguments variables args)

-- a clause as it is read
pub record ReadClause : Type 0 where
  pub name : Named
  pub role : List ℕ
  pub literals : List ClauseLiteral
  pub variables : List (List ℕ)
  pub conclude : List (List ℕ)

-- the clause that a name, a role, a formula and annotations say
abbrev pub clause_of : Name → List ℕ → Formula → Annotations → ReadClause
clause_of name role formula notes = record {
  name = named name;
  role = role;
  literals = map (clause_literal (variables_of formula)) (literals_of formula);
  variables = variables_of formula;
  conclude = conclusions_of notes;
}

-- a file's name, without quotes and escapes
abbrev pub file_text : FileName → List ℕ
file_text (bare_file text) = text
file_text (quoted_file text _) = unquoted text

-- the names that an include selects, if it has a list of them
abbrev pub selected_names : Selection → Option (List Named)
selected_names every_clause = None
selected_names (selected names) = Some (map named names)

-- a statement as it is read
pub data ReadStatement : Type 0 where
  read_clause : ReadClause → ReadStatement
  read_include : (file : List ℕ) (names : Option (List Named)) → ReadStatement

-- what a statement says
abbrev pub meaning : Statement → ReadStatement
meaning (clause name role formula notes) = read_clause (clause_of name role formula notes)
meaning (include file selection) = read_include (file_text file) (selected_names selection)
