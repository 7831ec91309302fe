use Rattle.std.proofs.Common.{arith, length, subst, sym, ap, ◌∙◌, ◌≡◌, Some, slice_get}
use Rattle.std.proofs.lemmas.Option.{slice_get_read}
use Rattle.key_watch.specs.Watching.{Has, WatchedNumbers}
use Rattle.key_watch.proofs.Watches.{push_again}
use Rattle.key_watch.proofs.number_watch.NumberWatch.push_again.Goals as goal

pub invariant_of-self-2 : goal.invariant_of-self-2
invariant_of-self-2 c =
    let counted = c.self.invariant.counted in
    let len : c.len-count.result ≡ length c.self.inside.path.items = omega arith in
    let at : slice_get c.self.inside.leasts.items (length c.self.inside.path.items) ≡ Some c.index-least.result.now =
    ap (slice_get c.self.inside.leasts.items) (sym len) ∙ slice_get_read c.self.inside.leasts.items (length c.self.inside.leasts.items) c.len-count.result c.index-least.result.now (omega arith) (omega (arith, counted, len)) c.index-least.ensures in
    let there : Has c.self.inside.path.items c.args.key = subst (λ (watch : WatchedNumbers). Has watch.path c.args.key) (sym c.self.view_is) c.requires in
    rw (c.in_ok-push-2.ensures.items, c.in_ok-push.ensures.items, c.truncate.ensures.items, len) (push_again _ _ _ _ _ _ c.self.invariant c.args.key there c.index-least.result.now at)
