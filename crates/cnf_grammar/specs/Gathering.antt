-- What the statements of a file say, gathered token by token along the table.
use Rattle.std.specs.Prelude.{ℕ, cond, ◌||◌, List, [], ◌∷◌, ◌++◌, Option, Some, None, map, filter, filter_map}
use Rattle.cnf_grammar.specs.declared.brackets.Bracket.{Bracket}
use Rattle.cnf_grammar.specs.declared.state.State.{State}
use Rattle.cnf_grammar.specs.declared.state.State.TheVariants.{NameStart, RoleStart, FormulaStart, LiteralStart, AtomStart, WordRead, TermStart, TermRead, Info, ClauseClosed, FileStart, FileRead, SelectionOpen, SelectedStart, IncludeClosed}
use Rattle.cnf_grammar.specs.declared.position.Position.{Position}
use Rattle.cnf_grammar.specs.Shapes.{Shape, Lower, Quoted, Number, comma, right_square, is_mark, is_name}
use Rattle.cnf_grammar.specs.Table.{step}
use Rattle.cnf_grammar.specs.Conclude.{gives_conclusions, number_of_token}
use Rattle.cnf_grammar.specs.Meaning.{unquoted, word_kind, integer_kind, Named, ReadStatement, read_clause, read_include}
use Rattle.cnf_grammar.specs.Draft.{Draft, empty_draft, collect_at}

-- the statements that were read to their dots, and what was read of the next
pub record Gathered : Type 0 where
  pub statements : List ReadStatement
  pub name : Named
  pub role : List ℕ
  pub formula : Draft
  -- the items of the info that are whole, and the tokens of the one under way
  pub items : List (List Shape)
  pub item : List Shape
  pub file : List ℕ
  pub names : Option (List Named)

-- these statements, and nothing of the next
abbrev pub gathered : List ReadStatement → Gathered
gathered statements = record {
  statements = statements;
  name = record { kind = word_kind; text = [] };
  role = [];
  formula = empty_draft;
  items = [];
  item = [];
  file = [];
  names = None;
}

-- the name that a token is
abbrev pub token_name : Shape → Named
token_name (Lower text) = record { kind = word_kind; text = text }
token_name (Quoted text) = record { kind = word_kind; text = unquoted text }
token_name (Number text plain) = record { kind = integer_kind; text = text }
token_name _ = record { kind = word_kind; text = [] }

-- the text that a token has as a word
abbrev pub token_text : Shape → List ℕ
token_text s = (token_name s).text

-- the list of names with one more
abbrev pub with_name : Option (List Named) → Named → Option (List Named)
with_name None name = Some (name ∷ [])
with_name (Some names) name = Some (names ++ name ∷ [])

-- a token of a list of names
abbrev pub gather_name : Shape → Gathered → Gathered
gather_name s g = cond (is_name s) (record g { names = with_name g.names (token_name s) }) g

-- a token of an info: outside inner brackets a comma and the closing bracket end an item
abbrev pub gather_item : List Bracket → Shape → Gathered → Gathered
gather_item [] s g = cond (is_mark comma s || is_mark right_square s) (record g { items = g.items ++ g.item ∷ []; item = [] }) (record g { item = g.item ++ s ∷ [] })
gather_item (bracket ∷ outer) s g = record g { item = g.item ++ s ∷ [] }

-- the clause that was read
abbrev pub finish_clause : Gathered → Gathered
finish_clause g = gathered (g.statements ++ read_clause (record {
  name = g.name;
  role = g.role;
  literals = g.formula.literals;
  variables = g.formula.variables;
  conclude = map (filter_map number_of_token) (filter gives_conclusions g.items);
}) ∷ [])

-- the include that was read
abbrev pub finish_include : Gathered → Gathered
finish_include g = gathered (g.statements ++ read_include g.file g.names ∷ [])

-- a token of a formula
abbrev pub gather_formula : State → ℕ → Shape → Gathered → Gathered
gather_formula state depth s g = record g { formula = collect_at state depth s g.formula }

-- what a token adds, by the state that it is read in
abbrev pub gather_at : State → Position → Shape → Gathered → Gathered
gather_at NameStart p s g = record g { name = token_name s }
gather_at RoleStart p s g = record g { role = token_text s }
gather_at FormulaStart p s g = gather_formula FormulaStart p.depth s g
gather_at LiteralStart p s g = gather_formula LiteralStart p.depth s g
gather_at AtomStart p s g = gather_formula AtomStart p.depth s g
gather_at WordRead p s g = gather_formula WordRead p.depth s g
gather_at TermStart p s g = gather_formula TermStart p.depth s g
gather_at TermRead p s g = gather_formula TermRead p.depth s g
gather_at Info p s g = gather_item p.brackets s g
gather_at ClauseClosed p s g = finish_clause g
gather_at FileStart p s g = record g { file = token_text s }
gather_at FileRead p s g = cond (is_mark comma s) (record g { names = Some [] }) g
gather_at SelectionOpen p s g = gather_name s g
gather_at SelectedStart p s g = gather_name s g
gather_at IncludeClosed p s g = finish_include g
gather_at _ p s g = g

-- what a token adds, read at a position
abbrev pub gather : Position → Shape → Gathered → Gathered
gather p s g = gather_at p.state p s g

-- what tokens add, read from a position on
abbrev pub gather_from : Option Position → Gathered → List Shape → Gathered
gather_from None g tokens = g
gather_from (Some p) g [] = g
gather_from (Some p) g (s ∷ tokens) = gather_from (step p s) (gather p s g) tokens
