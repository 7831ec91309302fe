use Rattle.std.proofs.Common.{arith, false, length, nat_eq, subst, sym, ap, ◌∙◌, ◌<◌, ◌≡◌, Some, slice_get}
use Rattle.std.proofs.lemmas.Option.{slice_get_read}
use Rattle.key_watch.specs.Arriving.{Arrives}
use Rattle.key_watch.specs.Owned.{has}
use Rattle.key_watch.specs.Watching.{AreWaiting, WatchedNumbers}
use Rattle.key_watch.proofs.Watches.{push_new}
use Rattle.key_watch.proofs.number_watch.NumberWatch.push.Goals as goal

pub invariant_of-self-2 : goal.invariant_of-self-2
invariant_of-self-2 c =
    let counted = c.self.invariant.counted in
    let len : c.len.result ≡ length c.self.inside.path.items = omega arith in
    let count : c.len-count.result ≡ length c.self.inside.path.items = omega arith in
    let at : slice_get c.self.inside.leasts.items (length c.self.inside.path.items) ≡ Some c.index.result.now =
    ap (slice_get c.self.inside.leasts.items) (sym len) ∙ slice_get_read c.self.inside.leasts.items (length c.self.inside.leasts.items) c.len.result c.index.result.now (omega arith) (omega (arith, counted, len)) c.index.ensures in
    let known : c.args.key < length c.self.inside.chains.items = subst (λ (watch : WatchedNumbers). c.args.key < watch.keys) (sym c.self.view_is) c.requires in
    let away : has nat_eq c.self.inside.path.items c.args.key ≡ false = ap (λ (watch : WatchedNumbers). has nat_eq watch.path c.args.key) c.self.view_is ∙ (sym c.has.ensures ∙ c.if-has.false) in
    rw (c.in_ok-push-2.ensures.items, c.in_ok-push.ensures.items, c.truncate.ensures.items, count)
    (push_new _ _ _ _ _ _ c.self.invariant c.args.key known away c.index.result.now at c.arrivals.new.waits.items c.arrivals.new.chains.items
    (subst (AreWaiting c.self.inside.sets.items c.arrivals.new.waits.items c.arrivals.new.chains.items) c.as_slice-2.ensures.value
    (subst (λ sets. AreWaiting sets c.arrivals.new.waits.items c.arrivals.new.chains.items c.as_slice-2.result.now) c.as_slice.ensures.value c.in_ok-least.ensures.waiting))
    c.in_ok-least.ensures.chains c.in_ok-least.least
    (subst (λ places. Arrives c.self.inside.sets.items c.arrivals.new.waits.items places c.args.key c.index.result.now c.in_ok-least.least) c.as_slice-2.ensures.value
    (subst (λ sets. Arrives sets c.arrivals.new.waits.items c.as_slice-2.result.now c.args.key c.index.result.now c.in_ok-least.least) c.as_slice.ensures.value c.in_ok-least.ensures.arrives)))
