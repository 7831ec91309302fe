use Rattle.std.proofs.Common.{◌≡◌, ◌++◌, drop}
use Rattle.branch_lemmas.proofs.folding.premises_of.Given as goal

abbrev pub invariant-loop-premise : goal.invariant-loop-premise
invariant-loop-premise l = l.lits.items ++ drop l.premise-index l.premises ≡ l.premises
