use Rattle.std.proofs.Common.{arith, length, subst, sym, ap, ◌∙◌, ◌++◌, ◌∷◌, [], ◌<◌, ◌≡◌, ℕ, take}
use Rattle.key_watch.specs.Owned.{Owned}
use Rattle.key_watch.specs.Watching.{AreLowered, Has, IsChained, IsWaiting, IsWatching, WatchedNumbers, stands_since}
use Rattle.key_watch.proofs.Watches.{add_set, entry_is, entry_spare, since_small, wait_known}
use Rattle.key_watch.proofs.number_watch.NumberWatch.add.Goals as goal

pub stands_since-since-requires : goal.stands_since-since-requires
stands_since-since-requires c = λ count e.
    let small = since_small _ _ _ _ _ _ c.self.invariant c.last_to_come-wait.result count (ap (λ places. stands_since places c.last_to_come-wait.result) (sym c.as_slice-3.ensures.value) ∙ e) in
    omega (arith, small)

pub hang-requires : goal.hang-requires
hang-requires c =
    wait_known _ _ _ _ _ _ c.self.invariant c.set.inside.keys.items c.last_to_come-wait.result
    (subst (λ places. IsWaiting places c.set.inside.keys.items c.last_to_come-wait.result) c.as_slice.ensures.value
    (subst (λ keys. IsWaiting c.as_slice.result.now keys c.last_to_come-wait.result) c.as_slice-2.ensures.value c.last_to_come-wait.ensures))
    (λ key there. subst (λ (watch : WatchedNumbers). key < watch.keys) (sym c.self.view_is) (c.requires key (subst (λ (set : Owned ℕ). Has set.keys key) c.set.view_is there)))

pub invariant_of-self-in_err-hang : goal.invariant_of-self-in_err-hang
invariant_of-self-in_err-hang c =
    let count : c.len-count.result ≡ length c.self.inside.sets.items = omega arith in
    rw (c.in_ok-push.ensures.items, c.truncate.ensures.items, count)
    (entry_spare _ _ _ _ _ _ c.self.invariant c.last_to_come-wait.result c.hang.new.chains.items c.hang.ensures.sized c.hang.ensures.kept)

pub invariant_of-self-in_err-push-2 : goal.invariant_of-self-in_err-push-2
invariant_of-self-in_err-push-2 c =
    let count : c.len-count.result ≡ length c.self.inside.sets.items = omega arith in
    rw (c.in_err-push-2.ensures.items, c.in_ok-push.ensures.items, c.truncate.ensures.items, count)
    (entry_spare _ _ _ _ _ _ c.self.invariant c.last_to_come-wait.result c.hang.new.chains.items c.hang.ensures.sized c.hang.ensures.kept)

pub invariant_of-self-2 : goal.invariant_of-self-2
invariant_of-self-2 c =
    let count : c.len-count.result ≡ length c.self.inside.sets.items = omega arith in
    let set : Owned ℕ = record { keys = c.set.inside.keys.items; owner = c.set.inside.owner } in
    let waits_for : IsWaiting c.self.inside.places.items c.set.inside.keys.items c.last_to_come-wait.result =
    subst (λ places. IsWaiting places c.set.inside.keys.items c.last_to_come-wait.result) c.as_slice.ensures.value (subst (λ keys. IsWaiting c.as_slice.result.now keys c.last_to_come-wait.result) c.as_slice-2.ensures.value c.last_to_come-wait.ensures) in
    let known : (key : ℕ) → Has c.set.inside.keys.items key → key < length c.hang.new.chains.items =
    λ key there.
    let small : key < length c.self.inside.chains.items = subst (λ (watch : WatchedNumbers). key < watch.keys) (sym c.self.view_is) (c.requires key (subst (λ (set : Owned ℕ). Has set.keys key) c.set.view_is there)) in
    let size = c.hang.ensures.sized in
    omega (arith, small, size) in
    let index : c.in-Ok.index ≡ length c.self.inside.sets.items = omega arith in
    let since = c.stands_since-since.ensures ∙ ap (λ places. stands_since places c.last_to_come-wait.result) c.as_slice-3.ensures.value in
    rw (c.in_ok-push-2.ensures.items, c.in_ok-push.ensures.items, c.truncate.ensures.items, count)
    (subst (λ (one : Owned ℕ). IsWatching (c.self.inside.sets.items ++ one ∷ []) (take (length c.self.inside.sets.items) c.self.inside.waits.items ++ c.last_to_come-wait.result ∷ []) c.hang.new.chains.items c.self.inside.places.items c.self.inside.path.items c.lower.new.leasts.items) c.set.view_is
    (add_set _ _ _ _ _ _ (entry_spare _ _ _ _ _ _ c.self.invariant c.last_to_come-wait.result c.hang.new.chains.items c.hang.ensures.sized c.hang.ensures.kept) set c.last_to_come-wait.result waits_for known
    (entry_is _ _ _ _ _ _ c.self.invariant c.last_to_come-wait.result c.hang.new.chains.items c.hang.ensures.sized c.hang.ensures.kept)
    (subst (λ n. IsChained c.hang.new.chains.items n c.last_to_come-wait.result) index c.in_ok-hang.ensures.ok) c.lower.new.leasts.items (subst (λ one. AreLowered c.self.inside.leasts.items one c.set.inside.owner c.lower.new.leasts.items) since c.lower.ensures.lowered) c.lower.ensures.sized))
