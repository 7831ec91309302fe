use Rattle.std.proofs.Common.{inl}
use Rattle.command_line.proofs.Outcomes.{only, failure, exact}
use Rattle.command_line.proofs.top.run_alone.Goals as goal

pub returns-clause-runs : goal.returns-clause-runs
returns-clause-runs g c = inl (c.serve.ensures.replied _ c.in-Ok.ensures.asks)

pub returns-clause-only : goal.returns-clause-only
returns-clause-only g c = only _ _ _ _ (returns-clause-runs g c)

pub returns-clause-failure : goal.returns-clause-failure
returns-clause-failure g c = failure _ _ _ _ (returns-clause-runs g c)

pub returns-clause-exact : goal.returns-clause-exact
returns-clause-exact g c = exact _ _ _ _ (returns-clause-runs g c)
