-- From each position some tokens lead to the end of a statement.
use Rattle.cnf_grammar.proofs.Common.{◌≡◌, ℕ, zero, suc, List, [], ◌∷◌, Option, Some, refl, codes, Bracket, Round, Square, State, Statement, ClauseWord, NameStart, NameRead, RoleStart, RoleRead, FormulaStart, LiteralStart, AtomStart, WordRead, TermStart, TermRead, FormulaClosed, SourceStart, Source, InfoStart, Info, InfoClosed, ClauseClosed, IncludeWord, FileStart, FileRead, SelectionStart, SelectionOpen, SelectedStart, SelectedRead, SelectionClosed, IncludeClosed, Position, Shape, Lower, Upper, Dollar, NotEqual, Punct, left_round, right_round, left_square, right_square, comma, dot, run_from, start}
use Rattle.cnf_grammar.proofs.Accepting.{position}

abbrev Ends : State → ℕ → ℕ → List Bracket → Type 0
Ends state level depth brackets = (tokens : List Shape) × (run_from (Some (position state level depth brackets)) tokens ≡ Some start)

-- the end of a statement, of an info, of a list of names, and what stands before it
abbrev closing_marks : List Shape
closing_marks = Punct right_round ∷ (Punct dot ∷ [])

abbrev list_end : List Shape
list_end = Punct right_square ∷ closing_marks

abbrev file_end : List Shape
file_end = Lower [] ∷ closing_marks

abbrev formula_end : List Shape
formula_end = Punct comma ∷ (Dollar (codes "$true") ∷ closing_marks)

abbrev role_end : List Shape
role_end = Lower [] ∷ formula_end

abbrev name_end : List Shape
name_end = Lower [] ∷ (Punct comma ∷ role_end)

after_formula : (level depth : ℕ) (brackets : List Bracket) → Ends FormulaClosed level depth brackets
after_formula zero depth brackets = (closing_marks, refl)
after_formula (suc level) depth brackets = let rest = after_formula level depth brackets in (Punct right_round ∷ rest.0, rest.1)

after_term : (level depth : ℕ) (brackets : List Bracket) → Ends TermRead level depth brackets
after_term zero zero brackets = (closing_marks, refl)
after_term (suc level) zero brackets = let rest = after_formula level 0 brackets in (Punct right_round ∷ rest.0, rest.1)
after_term level (suc depth) brackets = let rest = after_term level depth brackets in (Punct right_round ∷ rest.0, rest.1)

in_source : (level depth : ℕ) (brackets : List Bracket) → Ends Source level depth brackets
in_source level depth [] = (closing_marks, refl)
in_source level depth (Round ∷ outer) = let rest = in_source level depth outer in (Punct right_round ∷ rest.0, rest.1)
in_source level depth (Square ∷ outer) = let rest = in_source level depth outer in (Punct right_square ∷ rest.0, rest.1)

in_info : (level depth : ℕ) (brackets : List Bracket) → Ends Info level depth brackets
in_info level depth [] = (list_end, refl)
in_info level depth (Round ∷ outer) = let rest = in_info level depth outer in (Punct right_round ∷ rest.0, rest.1)
in_info level depth (Square ∷ outer) = let rest = in_info level depth outer in (Punct right_square ∷ rest.0, rest.1)

completed_at : (state : State) (level depth : ℕ) (brackets : List Bracket) → Ends state level depth brackets
completed_at Statement level depth brackets = (Lower (codes "cnf") ∷ (Punct left_round ∷ name_end), refl)
completed_at ClauseWord level depth brackets = (Punct left_round ∷ name_end, refl)
completed_at NameStart level depth brackets = (name_end, refl)
completed_at NameRead level depth brackets = (Punct comma ∷ role_end, refl)
completed_at RoleStart level depth brackets = (role_end, refl)
completed_at RoleRead level depth brackets = (formula_end, refl)
completed_at AtomStart level depth brackets = let rest = after_term level 0 brackets in (Dollar (codes "$true") ∷ rest.0, rest.1)
completed_at LiteralStart level depth brackets = let rest = after_term level 0 brackets in (Dollar (codes "$true") ∷ rest.0, rest.1)
completed_at FormulaStart level depth brackets = let rest = after_term level 0 brackets in (Dollar (codes "$true") ∷ rest.0, rest.1)
completed_at WordRead level depth brackets = let rest = after_term level (suc depth) brackets in (Punct left_round ∷ (Upper [] ∷ rest.0), rest.1)
completed_at TermStart level depth brackets = let rest = after_term level depth brackets in (Upper [] ∷ rest.0, rest.1)
completed_at TermRead level depth brackets = after_term level depth brackets
completed_at FormulaClosed level depth brackets = after_formula level depth brackets
completed_at SourceStart level depth brackets = (NotEqual ∷ closing_marks, refl)
completed_at Source level depth brackets = in_source level depth brackets
completed_at InfoStart level depth brackets = (Punct left_square ∷ list_end, refl)
completed_at Info level depth brackets = in_info level depth brackets
completed_at ClauseClosed level depth brackets = (Punct dot ∷ [], refl)
completed_at IncludeWord level depth brackets = (Punct left_round ∷ file_end, refl)
completed_at FileStart level depth brackets = (file_end, refl)
completed_at SelectionStart level depth brackets = (Punct left_square ∷ list_end, refl)
completed_at SelectionOpen level depth brackets = (list_end, refl)
completed_at SelectedStart level depth brackets = (Lower [] ∷ list_end, refl)
completed_at SelectedRead level depth brackets = (list_end, refl)
completed_at IncludeClosed level depth brackets = (Punct dot ∷ [], refl)
completed_at state level depth brackets = (closing_marks, refl)

pub completed : (p : Position) → (tokens : List Shape) × (run_from (Some p) tokens ≡ Some start)
completed p = completed_at p.state p.level p.depth p.brackets
