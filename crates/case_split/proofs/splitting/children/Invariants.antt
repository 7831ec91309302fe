-- The children so far, and those of the conclusions that are left, are all.
use Rattle.std.proofs.Common.{◌≡◌, ◌++◌, drop}
use Rattle.case_split.specs.Splitting.{children_of}
use Rattle.case_split.proofs.splitting.children.Given as goal

abbrev pub invariant-loop-conclusion : goal.invariant-loop-conclusion
invariant-loop-conclusion l = l.made.items ++ children_of l.lits l.before (drop l.conclusion-index l.conclusions) ≡ children_of l.lits l.barred l.conclusions
