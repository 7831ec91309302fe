use Rattle.clause_form.proofs.OneProblem.{one_problem}
use Rattle.clause_form.proofs.laws.one_problem.Goals as goal

pub returns : goal.returns
returns c = one_problem
