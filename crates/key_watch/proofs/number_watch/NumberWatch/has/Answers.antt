use Rattle.std.proofs.Common.{is_some, nat_eq, sym, ap, subst, ◌≡◌, ◌∙◌}
use Rattle.key_watch.specs.Owned.{has}
use Rattle.key_watch.specs.Watching.{WatchedNumbers, came}
use Rattle.key_watch.proofs.Comings.{path_has}
use Rattle.key_watch.proofs.Watches.{came_on}
use Rattle.key_watch.proofs.number_watch.NumberWatch.has.Goals as goal

pub returns : goal.returns
returns c =
    subst (λ (watch : WatchedNumbers). c.is_some.result ≡ has nat_eq watch.path c.args.key) c.self.view_is
    (c.is_some.ensures ∙ (ap is_some (c.place_of.ensures ∙ (ap (λ places. came places c.args.key) c.as_slice.ensures.value ∙ came_on _ _ _ _ _ _ c.self.invariant c.args.key)) ∙ sym (path_has c.self.inside.path.items c.args.key)))
