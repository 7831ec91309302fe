use Rattle.std.proofs.Common.{refl, true≢false}
use Rattle.clause_form.proofs.Among.{some_free, no_free, not_restricted}
use Rattle.clause_form.proofs.variables.free_variable.Goals as goal

pub returns-then-not-is_in_lits-clause-exact : goal.returns-then-not-is_in_lits-clause-exact
returns-then-not-is_in_lits-clause-exact c = (
  λ e. absurd (true≢false e),
  not_restricted c.args.form.now c.in-Some.variable
      (some_free c.args.form.now c.as_slice-conclusions.result.now c.as_slice-premises.result.now c.loop-variable.from c.in-Some.variable c.least_of_lits.result c.is_in_lits.result
      c.as_slice-conclusions.ensures c.as_slice-premises.ensures c.loop-variable.invariant.none_before c.least_of_lits.ensures c.in-Some.is c.is_in_lits.ensures c.if-not-is_in_lits.true),
)

pub returns-clause-found : goal.returns-clause-found
returns-clause-found c =
    no_free c.args.form.now c.as_slice-conclusions.result.now c.loop-variable.from c.least_of_lits.result c.as_slice-conclusions.ensures c.loop-variable.invariant.none_before c.least_of_lits.ensures c.in_default.is

pub returns-clause-exact : goal.returns-clause-exact
returns-clause-exact c = (
  λ _. no_free c.args.form.now c.as_slice-conclusions.result.now c.loop-variable.from c.least_of_lits.result c.as_slice-conclusions.ensures c.loop-variable.invariant.none_before c.least_of_lits.ensures c.in_default.is,
  λ _. refl,
)
