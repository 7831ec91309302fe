use Rattle.std.proofs.Common.{length, sym, ap, ◌∙◌}
use Rattle.key_watch.specs.Keys.{Watched}
use Rattle.key_watch.proofs.NamedKeys.{named_length}
use Rattle.key_watch.proofs.watch.Watch.len.Goals as goal

pub returns : goal.returns
returns c = c.len.ensures ∙ (sym (named_length c.self.inside.table c.self.inside.numbers.path c.self.invariant.path) ∙ ap (λ (watched : Watched). length watched.path) c.self.view_is)
