use Rattle.std.proofs.Common.{take, ap, ◌∙◌}
use Rattle.key_watch.specs.Keys.{Watched}
use Rattle.key_watch.proofs.NamedKeys.{cut_numbered, cut_seen}
use Rattle.key_watch.proofs.watch.Watch.truncate.Goals as goal

pub invariant_of-self : goal.invariant_of-self
invariant_of-self c = cut_numbered c.self.inside.table c.self.inside.numbers c.args.len c.self.invariant c.truncate.new.self c.truncate.ensures

pub returns : goal.returns
returns c = cut_seen c.self.inside.table c.self.inside.numbers c.args.len c.self.invariant c.truncate.new.self c.truncate.ensures ∙ ap (λ (watched : Watched). record watched { path = take c.args.len watched.path }) c.self.view_is
