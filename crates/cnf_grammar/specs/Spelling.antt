-- The tokens of a problem file. The tokens are a file where some tree spells to them.
use Rattle.std.specs.Prelude.{◌≡◌, ℕ, true, List, [], ◌∷◌, ◌++◌, Option, Some, None, codes}
use Rattle.cnf_grammar.specs.declared.brackets.Bracket.{Bracket}
use Rattle.cnf_grammar.specs.declared.brackets.Bracket.TheVariants.{Round, Square}
use Rattle.cnf_grammar.specs.Shapes.{Shape, Lower, Upper, Quoted, Distinct, Dollar, Number, Punct, left_round, right_round, left_square, right_square, comma, dot, bar, tilde}
use Rattle.cnf_grammar.specs.Trees.{Word, bare_word, quoted_word, Name, word_name, number_name, FileName, bare_file, quoted_file, Term, variable, number, distinct, compound, Arguments, no_arguments, arguments, Terms, no_terms, then_term, Atom, truth, falsity, predicate, Literal, positive, negative, Formula, bracketed, disjunction, Balanced, no_tokens, then_token, then_group, Part, single, group, Source, Info, Annotations, no_annotations, annotations, Selection, every_clause, selected, Statement, clause, include}

-- a word is one token
abbrev pub word_token : Word → Shape
word_token (bare_word text) = Lower text
word_token (quoted_word text) = Quoted text

-- a name is one token
abbrev pub name_token : Name → Shape
name_token (word_name word) = word_token word
name_token (number_name text) = Number text true

-- a file name is one token
abbrev pub file_token : FileName → Shape
file_token (bare_file text) = Lower text
file_token (quoted_file text _) = Quoted text

abbrev mutual
  -- a term
  pub spell_term : Term → List Shape
  spell_term (variable text) = Upper text ∷ []
  spell_term (number text) = Number text true ∷ []
  spell_term (distinct text) = Distinct text ∷ []
  spell_term (compound word args) = word_token word ∷ spell_arguments args

  -- arguments in brackets, or nothing
  pub spell_arguments : Arguments → List Shape
  spell_arguments no_arguments = []
  spell_arguments (arguments first more) = Punct left_round ∷ (spell_term first ++ (spell_terms more ++ Punct right_round ∷ []))

  -- further terms, each behind a comma
  pub spell_terms : Terms → List Shape
  spell_terms no_terms = []
  spell_terms (then_term term more) = Punct comma ∷ (spell_term term ++ spell_terms more)

-- an atom
abbrev pub spell_atom : Atom → List Shape
spell_atom truth = Dollar (codes "$true") ∷ []
spell_atom falsity = Dollar (codes "$false") ∷ []
spell_atom (predicate word args) = word_token word ∷ spell_arguments args

-- a literal
abbrev pub spell_literal : Literal → List Shape
spell_literal (positive atom) = spell_atom atom
spell_literal (negative atom) = Punct tilde ∷ spell_atom atom

-- further literals, each behind a bar
abbrev pub spell_literals : List Literal → List Shape
spell_literals [] = []
spell_literals (literal ∷ more) = Punct bar ∷ (spell_literal literal ++ spell_literals more)

-- a formula
abbrev pub spell_formula : Formula → List Shape
spell_formula (bracketed formula) = Punct left_round ∷ (spell_formula formula ++ Punct right_round ∷ [])
spell_formula (disjunction first more) = spell_literal first ++ spell_literals more

-- the mark that opens a bracket
abbrev pub opening : Bracket → Shape
opening Round = Punct left_round
opening Square = Punct left_square

-- the mark that closes a bracket
abbrev pub closing : Bracket → ℕ
closing Round = right_round
closing Square = right_square

-- balanced tokens
abbrev pub spell_balanced : Balanced → List Shape
spell_balanced no_tokens = []
spell_balanced (then_token token _ more) = token ∷ spell_balanced more
spell_balanced (then_group bracket inside more) = opening bracket ∷ (spell_balanced inside ++ Punct (closing bracket) ∷ spell_balanced more)

-- a part of an annotation
abbrev pub spell_part : Part → List Shape
spell_part (single token _ _) = token ∷ []
spell_part (group bracket inside) = opening bracket ∷ (spell_balanced inside ++ Punct (closing bracket) ∷ [])

-- parts side by side: an item of an info, too
abbrev pub spell_parts : List Part → List Shape
spell_parts [] = []
spell_parts (part ∷ more) = spell_part part ++ spell_parts more

-- a source
abbrev pub spell_source : Source → List Shape
spell_source source = spell_part source.first ++ spell_parts source.more

-- further items, each behind a comma
abbrev pub spell_items : List (List Part) → List Shape
spell_items [] = []
spell_items (item ∷ more) = Punct comma ∷ (spell_parts item ++ spell_items more)

-- an info
abbrev pub spell_info : Info → List Shape
spell_info info = Punct left_square ∷ (spell_parts info.first ++ (spell_items info.more ++ Punct right_square ∷ []))

-- an info behind its comma, or nothing
abbrev pub spell_optional_info : Option Info → List Shape
spell_optional_info None = []
spell_optional_info (Some info) = Punct comma ∷ spell_info info

-- annotations behind their comma, or nothing
abbrev pub spell_annotations : Annotations → List Shape
spell_annotations no_annotations = []
spell_annotations (annotations source info) = Punct comma ∷ (spell_source source ++ spell_optional_info info)

-- further names, each behind a comma
abbrev pub spell_more_names : List Name → List Shape
spell_more_names [] = []
spell_more_names (name ∷ more) = Punct comma ∷ (name_token name ∷ spell_more_names more)

-- names with commas between them
abbrev pub spell_names : List Name → List Shape
spell_names [] = []
spell_names (name ∷ more) = name_token name ∷ spell_more_names more

-- the names of an include behind their comma, or nothing
abbrev pub spell_selection : Selection → List Shape
spell_selection every_clause = []
spell_selection (selected names) = Punct comma ∷ (Punct left_square ∷ (spell_names names ++ Punct right_square ∷ []))

-- a statement
abbrev pub spell_statement : Statement → List Shape
spell_statement (clause name role formula notes) =
    Lower (codes "cnf") ∷ (Punct left_round ∷ (name_token name ∷ (Punct comma ∷ (Lower role ∷ (Punct comma ∷
    (spell_formula formula ++ (spell_annotations notes ++ Punct right_round ∷ (Punct dot ∷ []))))))))
spell_statement (include file selection) =
    Lower (codes "include") ∷ (Punct left_round ∷ (file_token file ∷ (spell_selection selection ++ Punct right_round ∷ (Punct dot ∷ []))))

-- a file: statements one after another
abbrev pub spell : List Statement → List Shape
spell [] = []
spell (statement ∷ more) = spell_statement statement ++ spell more

-- the tokens are a file
abbrev pub IsFile : List Shape → Type 0
IsFile tokens = (file : List Statement) × (spell file ≡ tokens)

-- the tokens are the front of a file
abbrev pub IsFront : List Shape → Type 0
IsFront tokens = (more : List Shape) × IsFile (tokens ++ more)
