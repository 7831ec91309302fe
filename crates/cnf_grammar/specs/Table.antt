-- The table that follows the grammar token by token: from a position by a token to the next position, where there is one.
use Rattle.std.specs.Prelude.{ℕ, zero, suc, Bool, true, false, cond, not, ◌||◌, List, [], ◌∷◌, Option, Some, None, codes}
use Rattle.cnf_grammar.specs.declared.brackets.Bracket.{Bracket}
use Rattle.cnf_grammar.specs.declared.brackets.Bracket.TheVariants.{Round, Square}
use Rattle.cnf_grammar.specs.declared.state.State.{State}
use Rattle.cnf_grammar.specs.declared.state.State.TheVariants.{Statement, ClauseWord, NameStart, NameRead, RoleStart, RoleRead, FormulaStart, LiteralStart, AtomStart, WordRead, TermStart, TermRead, FormulaClosed, SourceStart, Source, InfoStart, Info, InfoClosed, ClauseClosed, IncludeWord, FileStart, FileRead, SelectionStart, SelectionOpen, SelectedStart, SelectedRead, SelectionClosed, IncludeClosed}
use Rattle.cnf_grammar.specs.declared.position.Position.{Position}
use Rattle.cnf_grammar.specs.Shapes.{Shape, left_round, right_round, left_square, right_square, comma, dot, bar, tilde, is_mark, is_bracket, is_keyword, is_defined, is_lower, is_word, is_name, is_simple_term, is_file_name}
use Rattle.cnf_grammar.specs.Spelling.{closing}

-- the position where the test holds, else what follows
abbrev pub or_else : Bool → Position → Option Position → Option Position
or_else true position other = Some position
or_else false position other = other

-- the position where the test holds, else none
abbrev pub when : Bool → Position → Option Position
when test position = or_else test position None

-- the position, with this state
abbrev pub to : State → Position → Position
to state p = record p { state = state }

-- the position at the start of a file, to which the dot of a statement leads back
abbrev pub start : Position
start = record { state = Statement; level = 0; depth = 0; brackets = [] }

-- between statements
abbrev pub between : Position → Shape → Option Position
between p s = or_else (is_keyword (codes "cnf") s) (to ClauseWord p) (when (is_keyword (codes "include") s) (to IncludeWord p))

-- where an atom must begin
abbrev pub atom_start : Position → Shape → Option Position
atom_start p s =
    or_else (is_word s) (record p { state = WordRead; depth = 0 })
    (when (is_defined (codes "$true") s || is_defined (codes "$false") s) (record p { state = TermRead; depth = 0 }))

-- where a literal must begin
abbrev pub literal_start : Position → Shape → Option Position
literal_start p s = or_else (is_mark tilde s) (to AtomStart p) (atom_start p s)

-- where a formula must begin
abbrev pub formula_start : Position → Shape → Option Position
formula_start p s = or_else (is_mark left_round s) (record p { level = suc p.level }) (literal_start p s)

-- behind a formula, with so many brackets open round it
abbrev pub after_formula : ℕ → Position → Shape → Option Position
after_formula zero p s = or_else (is_mark comma s) (to SourceStart p) (when (is_mark right_round s) (to ClauseClosed p))
after_formula (suc level) p s = when (is_mark right_round s) (record p { state = FormulaClosed; level = level })

-- behind a literal
abbrev pub after_literal : Position → Shape → Option Position
after_literal p s = or_else (is_mark bar s) (to LiteralStart p) (after_formula p.level (to FormulaClosed p) s)

-- behind a term with so many brackets of arguments open round it, or behind an atom
abbrev pub after_term : ℕ → Position → Shape → Option Position
after_term zero p s = after_literal p s
after_term (suc depth) p s = or_else (is_mark comma s) (to TermStart p) (when (is_mark right_round s) (record p { state = TermRead; depth = depth }))

-- behind a word, whose arguments may come
abbrev pub after_word : Position → Shape → Option Position
after_word p s = or_else (is_mark left_round s) (record p { state = TermStart; depth = suc p.depth }) (after_term p.depth (to TermRead p) s)

-- where a term must begin
abbrev pub term_start : Position → Shape → Option Position
term_start p s = or_else (is_simple_term s) (to TermRead p) (when (is_word s) (to WordRead p))

-- a token of an annotation that closes no bracket
abbrev pub any_token : Position → Shape → Option Position
any_token p s =
    or_else (is_mark left_round s) (record p { brackets = Round ∷ p.brackets })
    (or_else (is_mark left_square s) (record p { brackets = Square ∷ p.brackets })
    (when (not (is_bracket s)) p))

-- within a bracket of an annotation
abbrev pub within : Bracket → List Bracket → Position → Shape → Option Position
within bracket outer p s = or_else (is_mark (closing bracket) s) (record p { brackets = outer }) (any_token p s)

-- where a source must begin
abbrev pub source_start : Position → Shape → Option Position
source_start p s = cond (is_mark comma s) None (any_token (record p { state = Source; brackets = [] }) s)

-- in a source
abbrev pub in_source : List Bracket → Position → Shape → Option Position
in_source [] p s = or_else (is_mark comma s) (to InfoStart p) (or_else (is_mark right_round s) (to ClauseClosed p) (any_token p s))
in_source (bracket ∷ outer) p s = within bracket outer p s

-- in an info
abbrev pub in_info : List Bracket → Position → Shape → Option Position
in_info [] p s = or_else (is_mark right_square s) (to InfoClosed p) (any_token p s)
in_info (bracket ∷ outer) p s = within bracket outer p s

-- behind a file name
abbrev pub after_file : Position → Shape → Option Position
after_file p s = or_else (is_mark comma s) (to SelectionStart p) (when (is_mark right_round s) (to IncludeClosed p))

-- behind the opening bracket of a list of names
abbrev pub selection_open : Position → Shape → Option Position
selection_open p s = or_else (is_name s) (to SelectedRead p) (when (is_mark right_square s) (to SelectionClosed p))

-- behind a name of a list
abbrev pub after_selected : Position → Shape → Option Position
after_selected p s = or_else (is_mark comma s) (to SelectedStart p) (when (is_mark right_square s) (to SelectionClosed p))

-- the table
abbrev pub step_at : State → Position → Shape → Option Position
step_at Statement p s = between p s
step_at ClauseWord p s = when (is_mark left_round s) (to NameStart p)
step_at NameStart p s = when (is_name s) (to NameRead p)
step_at NameRead p s = when (is_mark comma s) (to RoleStart p)
step_at RoleStart p s = when (is_lower s) (to RoleRead p)
step_at RoleRead p s = when (is_mark comma s) (record p { state = FormulaStart; level = 0 })
step_at FormulaStart p s = formula_start p s
step_at LiteralStart p s = literal_start p s
step_at AtomStart p s = atom_start p s
step_at WordRead p s = after_word p s
step_at TermStart p s = term_start p s
step_at TermRead p s = after_term p.depth p s
step_at FormulaClosed p s = after_formula p.level p s
step_at SourceStart p s = source_start p s
step_at Source p s = in_source p.brackets p s
step_at InfoStart p s = when (is_mark left_square s) (record p { state = Info; brackets = [] })
step_at Info p s = in_info p.brackets p s
step_at InfoClosed p s = when (is_mark right_round s) (to ClauseClosed p)
step_at ClauseClosed p s = when (is_mark dot s) start
step_at IncludeWord p s = when (is_mark left_round s) (to FileStart p)
step_at FileStart p s = when (is_file_name s) (to FileRead p)
step_at FileRead p s = after_file p s
step_at SelectionStart p s = when (is_mark left_square s) (to SelectionOpen p)
step_at SelectionOpen p s = selection_open p s
step_at SelectedStart p s = when (is_name s) (to SelectedRead p)
step_at SelectedRead p s = after_selected p s
step_at SelectionClosed p s = when (is_mark right_round s) (to IncludeClosed p)
step_at IncludeClosed p s = when (is_mark dot s) start

-- where a token leads from a position
abbrev pub step : Position → Shape → Option Position
step p s = step_at p.state p s

-- where tokens lead from the position, if there is one
abbrev pub run_from : Option Position → List Shape → Option Position
run_from None tokens = None
run_from (Some p) [] = Some p
run_from (Some p) (s ∷ tokens) = run_from (step p s) tokens

-- where tokens lead from a position
abbrev pub run : Position → List Shape → Option Position
run p tokens = run_from (Some p) tokens

-- whether a file may end with this state
abbrev pub is_end_state : State → Bool
is_end_state Statement = true
is_end_state _ = false

-- whether a file may end at this position
abbrev pub is_end : Position → Bool
is_end p = is_end_state p.state
