use Rattle.std.proofs.Common.{◌≡◌, take}
use Rattle.clause_form.specs.Renumbering.{renumbered}
use Rattle.clause_form.proofs.renumbering.renumbered_clauses.Given as goal

abbrev pub invariant-loop-clause : goal.invariant-loop-clause
invariant-loop-clause l = l.copied.items ≡ renumbered l.numbers (take l.clause-index l.clauses)
