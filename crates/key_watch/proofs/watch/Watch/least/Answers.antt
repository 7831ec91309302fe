use Rattle.std.proofs.Common.{subst}
use Rattle.key_watch.specs.Keys.{IsLeast}
use Rattle.key_watch.proofs.NamedKeys.{named_least}
use Rattle.key_watch.proofs.watch.Watch.least.Goals as goal

pub returns : goal.returns
returns c = subst (λ watched. IsLeast watched c.least.result) c.self.view_is (named_least c.self.inside.table c.self.inside.numbers c.self.invariant c.least.result c.least.ensures)
