use Rattle.reading_laws.proofs.Joined.{joined, inputs-joined, faults-joined, failures-joined}
use Rattle.reading_laws.proofs.reading_goes_by_the_rules.Goals as goal

pub returns-clause-joined : goal.returns-clause-joined
returns-clause-joined c = joined

pub returns-clause-inputs : goal.returns-clause-inputs
returns-clause-inputs c = inputs-joined

pub returns-clause-faults : goal.returns-clause-faults
returns-clause-faults c = faults-joined

pub returns-clause-failures : goal.returns-clause-failures
returns-clause-failures c = failures-joined
