use Rattle.std.proofs.Common.{ℕ, arith, length, nat_eq, subst, ◌∙◌, ◌≡◌, sym, ap, Some, slice_get}
use Rattle.std.proofs.lemmas.Option.{slice_get_read}
use Rattle.key_watch.specs.Owned.{IsLeastOwner}
use Rattle.key_watch.specs.Watching.{WatchedNumbers}
use Rattle.key_watch.proofs.Watches.{least_now}
use Rattle.key_watch.proofs.number_watch.NumberWatch.least.Goals as goal

pub returns : goal.returns
returns c =
    let counted = c.self.invariant.counted in
    let len : c.len.result ≡ length c.self.inside.path.items = omega arith in
    let at : slice_get c.self.inside.leasts.items (length c.self.inside.path.items) ≡ Some c.index.result.now =
    ap (slice_get c.self.inside.leasts.items) (sym len) ∙ slice_get_read c.self.inside.leasts.items (length c.self.inside.leasts.items) c.len.result c.index.result.now (omega arith) (omega (arith, counted, len)) c.index.ensures in
    subst (λ (watch : WatchedNumbers). IsLeastOwner ℕ nat_eq watch.path watch.sets c.index.result.now) c.self.view_is (least_now _ _ _ _ _ _ c.self.invariant c.index.result.now at)
