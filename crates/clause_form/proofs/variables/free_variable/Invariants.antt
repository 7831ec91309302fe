use Rattle.std.proofs.Common.{◌≡◌, ◌≤◌, ◌<◌, ◌-◌, ◌^◌, ℕ, false}
use Rattle.clause_form.specs.Free.{is_free}
use Rattle.clause_form.proofs.variables.free_variable.Given as goal

abbrev pub invariant-loop-variable : goal.invariant-loop-variable
invariant-loop-variable l = record {
  in_range : l.from ≤ 2 ^ 32;
  none_before : (other : ℕ) → other < l.from → is_free l.fn.form other ≡ false;
}

abbrev pub decreases-loop-variable : goal.decreases-loop-variable
decreases-loop-variable l = 2 ^ 32 - l.from
