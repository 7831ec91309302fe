use Rattle.clause_form.proofs.Uniqueness.{one_first_fault}
use Rattle.clause_form.proofs.laws.one_fault.Goals as goal

pub returns : goal.returns
returns c = one_first_fault
