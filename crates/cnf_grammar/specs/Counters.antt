-- What the counters of a position count.
use Rattle.std.specs.Prelude.{◌≡◌, ℕ, ◌+◌, Bool, true, false, cond}
use Rattle.cnf_grammar.specs.declared.state.State.{State}
use Rattle.cnf_grammar.specs.declared.state.State.TheVariants.{FormulaStart, LiteralStart, AtomStart, WordRead, TermStart, TermRead, FormulaClosed}
use Rattle.cnf_grammar.specs.declared.position.Position.{Position}
use Rattle.cnf_grammar.specs.Shapes.{Shape, left_round, right_round, is_mark}

-- whether the state is one of a formula
abbrev pub in_formula : State → Bool
in_formula FormulaStart = true
in_formula LiteralStart = true
in_formula AtomStart = true
in_formula WordRead = true
in_formula TermStart = true
in_formula TermRead = true
in_formula FormulaClosed = true
in_formula _ = false

-- how many brackets of the formula are open there
abbrev pub open_brackets : Position → ℕ
open_brackets p = p.level + p.depth

-- how many round brackets the token opens
abbrev pub opened_by : Shape → ℕ
opened_by s = cond (is_mark left_round s) 1 0

-- how many round brackets the token closes
abbrev pub closed_by : Shape → ℕ
closed_by s = cond (is_mark right_round s) 1 0

-- by state: brackets of arguments are open in atoms alone, and brackets of the formula in formulas alone
abbrev pub tidy_at : State → ℕ → ℕ → Type 0
tidy_at WordRead level depth = Unit {0}
tidy_at TermStart level depth = Unit {0}
tidy_at TermRead level depth = Unit {0}
tidy_at FormulaStart level depth = depth ≡ 0
tidy_at LiteralStart level depth = depth ≡ 0
tidy_at AtomStart level depth = depth ≡ 0
tidy_at FormulaClosed level depth = depth ≡ 0
tidy_at _ level depth = (level ≡ 0) × (depth ≡ 0)

-- what is not open at the position counts 0
abbrev pub IsTidy : Position → Type 0
IsTidy p = tidy_at p.state p.level p.depth
