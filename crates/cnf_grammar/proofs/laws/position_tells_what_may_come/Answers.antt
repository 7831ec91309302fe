-- The laws are lemmas.
use Rattle.cnf_grammar.proofs.Joined.{run_step, goes_on, may_end}
use Rattle.cnf_grammar.proofs.laws.position_tells_what_may_come.Goals as goal

pub returns-clause-next : goal.returns-clause-next
returns-clause-next c = run_step

pub returns-clause-stop : goal.returns-clause-stop
returns-clause-stop c = goes_on

pub returns-clause-end : goal.returns-clause-end
returns-clause-end c = may_end
