-- The set so far, with the conclusions that are left, is the whole.
use Rattle.std.proofs.Common.{◌≡◌, drop}
use Rattle.case_split.specs.Splitting.{with_lits, barred_before}
use Rattle.case_split.proofs.splitting.child_barred.Given as goal

abbrev pub invariant-loop-conclusion : goal.invariant-loop-conclusion
invariant-loop-conclusion l = with_lits l.before (drop l.conclusion-index l.conclusion-items) ≡ barred_before l.barred l.inst.conclusions l.index
