use Rattle.std.proofs.Common.{◌++◌, ◌∷◌, [], ◌≡◌, ℕ, map, nat_eq, subst, sym, true≢false, ap, ◌∙◌}
use Rattle.key_watch.specs.declared.key.Side.TheVariants.{Barred, Held}
use Rattle.key_watch.specs.Keys.{Watched, key_on, keys_of}
use Rattle.key_watch.specs.KeyNumbers.{IsNumbered, keys_named, watched_by}
use Rattle.key_watch.specs.Owned.{Owned, has}
use Rattle.key_watch.specs.Watching.{WatchedNumbers}
use Rattle.key_watch.proofs.NamedKeys.{add_numbered, add_seen, either_then, err_anyway, err_then, grows_further, numbered_now, ok_then, seen_now}
use Rattle.key_watch.proofs.watch.Watch.add.Goals as goal

pub number_all-requires-clause-known : goal.number_all-requires-clause-known
number_all-requires-clause-known c = λ number there. absurd (true≢false (sym there ∙ ap (λ keys. has nat_eq keys number) c.in_ok-keys.ensures.items))

pub returns-in_err-number_all-clause-err : goal.returns-in_err-number_all-clause-err
returns-in_err-number_all-clause-err c =
    err_anyway c.from_residual-in_err-number_all.result _ (seen_now c.self.inside.table c.number_all.new.table c.number_all.ensures.grows c.number_all.ensures.different c.self.inside.numbers c.number_all.new.numbers c.self.invariant c.number_all.ensures.numbers c.number_all.ensures.room ∙ c.self.view_is)

pub returns-in_err-number_all-2-clause-err : goal.returns-in_err-number_all-2-clause-err
returns-in_err-number_all-2-clause-err c =
    err_anyway c.from_residual-in_err-number_all-2.result _
    (seen_now c.self.inside.table c.number_all-2.new.table (grows_further _ _ _ c.number_all.ensures.grows c.number_all-2.ensures.grows) c.number_all-2.ensures.different c.self.inside.numbers c.number_all-2.new.numbers c.self.invariant
    (c.number_all-2.ensures.numbers ∙ ap (λ (one : WatchedNumbers). record one { keys = c.number_all-2.new.numbers.keys }) c.number_all.ensures.numbers) c.number_all-2.ensures.room ∙ c.self.view_is)

pub invariant_of-self-2 : goal.invariant_of-self-2
invariant_of-self-2 c =
    let set : Owned ℕ = record { keys = c.number_all-2.new.into.items; owner = c.args.owner } in
    let numbers = c.number_all-2.ensures.numbers ∙ ap (λ (one : WatchedNumbers). record one { keys = c.number_all-2.new.numbers.keys }) c.number_all.ensures.numbers in
    let named : keys_named c.number_all-2.new.table c.number_all-2.new.into.items ≡ keys_of c.args.held.now c.args.barred.now =
    c.in_ok-number_all-2.ensures.named ∙ ap (λ front. front ++ map (key_on Barred) c.args.barred.now) (c.in_ok-number_all.ensures.named ∙ ap (λ keys. keys_named c.self.inside.table keys ++ map (key_on Held) c.args.held.now) c.in_ok-keys.ensures.items) in
    either_then c.add.result _ _ (IsNumbered c.number_all-2.new.table c.add.new.self) c.add.ensures.ok c.add.ensures.err
    (λ is. add_numbered c.self.inside.table c.number_all-2.new.table (grows_further _ _ _ c.number_all.ensures.grows c.number_all-2.ensures.grows) c.number_all-2.ensures.different c.self.inside.numbers c.number_all-2.new.numbers c.self.invariant numbers c.number_all-2.ensures.room
    set c.in_ok-number_all-2.ensures.known (keys_of c.args.held.now c.args.barred.now) named c.add.new.self is)
    (λ is. subst (IsNumbered c.number_all-2.new.table) (sym is)
    (numbered_now c.self.inside.table c.number_all-2.new.table (grows_further _ _ _ c.number_all.ensures.grows c.number_all-2.ensures.grows) c.number_all-2.ensures.different c.self.inside.numbers c.number_all-2.new.numbers c.self.invariant numbers c.number_all-2.ensures.room))

pub returns-clause-ok : goal.returns-clause-ok
returns-clause-ok c =
    let set : Owned ℕ = record { keys = c.number_all-2.new.into.items; owner = c.args.owner } in
    let numbers = c.number_all-2.ensures.numbers ∙ ap (λ (one : WatchedNumbers). record one { keys = c.number_all-2.new.numbers.keys }) c.number_all.ensures.numbers in
    let named : keys_named c.number_all-2.new.table c.number_all-2.new.into.items ≡ keys_of c.args.held.now c.args.barred.now =
    c.in_ok-number_all-2.ensures.named ∙ ap (λ front. front ++ map (key_on Barred) c.args.barred.now) (c.in_ok-number_all.ensures.named ∙ ap (λ keys. keys_named c.self.inside.table keys ++ map (key_on Held) c.args.held.now) c.in_ok-keys.ensures.items) in
    ok_then c.add.result _ _ c.add.ensures.ok
    (λ is. add_seen c.self.inside.table c.number_all-2.new.table (grows_further _ _ _ c.number_all.ensures.grows c.number_all-2.ensures.grows) c.number_all-2.ensures.different c.self.inside.numbers c.number_all-2.new.numbers c.self.invariant numbers c.number_all-2.ensures.room
    set c.in_ok-number_all-2.ensures.known (keys_of c.args.held.now c.args.barred.now) named c.add.new.self is
    ∙ ap (λ (watched : Watched). record watched { sets = watched.sets ++ record { keys = keys_of c.args.held.now c.args.barred.now; owner = c.args.owner } ∷ [] }) c.self.view_is)

pub returns-clause-err : goal.returns-clause-err
returns-clause-err c =
    err_then c.add.result _ _ c.add.ensures.err
    (λ is. ap (watched_by c.number_all-2.new.table) is
    ∙ (seen_now c.self.inside.table c.number_all-2.new.table (grows_further _ _ _ c.number_all.ensures.grows c.number_all-2.ensures.grows) c.number_all-2.ensures.different c.self.inside.numbers c.number_all-2.new.numbers c.self.invariant
    (c.number_all-2.ensures.numbers ∙ ap (λ (one : WatchedNumbers). record one { keys = c.number_all-2.new.numbers.keys }) c.number_all.ensures.numbers) c.number_all-2.ensures.room ∙ c.self.view_is))
