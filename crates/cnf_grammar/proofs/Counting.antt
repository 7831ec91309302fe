-- The counters of a position count the open brackets of the formula, and are 0 outside formulas.
use Rattle.cnf_grammar.proofs.Common.{◌≡◌, ◌+◌, true, List, [], ◌∷◌, Option, Some, None, refl, subst, arith, Position, Shape, step, run_from, run, start}
use Rattle.cnf_grammar.specs.Counters.{in_formula, open_brackets, opened_by, closed_by, IsTidy}
use Rattle.cnf_grammar.proofs.Edges as edges
use Rattle.cnf_grammar.proofs.Edges.{Edge, edge}

tidy_on : (p : Position) (s : Shape) (q : Position) → Edge p s q → IsTidy p → IsTidy q
tidy_on _ _ _ (edges.formula_comes l d bs) h = h.1
tidy_on _ _ _ _ h = assumption

-- of the position there, if there is one
abbrev TidyFrom : Option Position → Type 0
TidyFrom None = Unit {0}
TidyFrom (Some p) = IsTidy p

tidy_from : (p : Position) (s : Shape) (o : Option Position) → step p s ≡ o → IsTidy p → TidyFrom o
tidy_from p s None e h = tt
tidy_from p s (Some q) e h = tidy_on p s q (edge p s q e) h

tidy_run : (o : Option Position) (tokens : List Shape) → TidyFrom o → TidyFrom (run_from o tokens)
tidy_run None [] h = h
tidy_run None (s ∷ tokens) h = h
tidy_run (Some p) [] h = h
tidy_run (Some p) (s ∷ tokens) h = tidy_run (step p s) tokens (tidy_from p s (step p s) refl h)

pub tidy : (tokens : List Shape) (p : Position) → run start tokens ≡ Some p → IsTidy p
tidy tokens p e = subst TidyFrom e (tidy_run (Some start) tokens (refl, refl))

counts_on : (p : Position) (s : Shape) (q : Position) → Edge p s q → in_formula p.state ≡ true → in_formula q.state ≡ true → IsTidy p → open_brackets q + closed_by s ≡ open_brackets p + opened_by s
counts_on _ _ _ (edges.formula_opens l d bs) f g h = omega arith
counts_on _ _ _ _ f g h = first_of (cc, omega arith)

pub counts : (tokens : List Shape) (p q : Position) (s : Shape) → run start tokens ≡ Some p → step p s ≡ Some q → in_formula p.state ≡ true → in_formula q.state ≡ true → open_brackets q + closed_by s ≡ open_brackets p + opened_by s
counts tokens p q s e k f g = counts_on p s q (edge p s q k) f g (tidy tokens p e)
