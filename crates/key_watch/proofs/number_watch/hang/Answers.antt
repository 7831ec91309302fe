use Rattle.std.proofs.Common.{slice_set, subst, sym}
use Rattle.key_watch.specs.Watching.{Has, IsChained, chain_of}
use Rattle.key_watch.proofs.Watches.{hung_kept, hung_there}
use Rattle.key_watch.proofs.number_watch.hang.Goals as goal

pub returns-in_ok-push-clause-kept : goal.returns-in_ok-push-clause-kept
returns-in_ok-push-clause-kept c = λ key at there.
    subst (λ chain. Has (chain_of (slice_set c.args.chains.now.items c.in-Some.key chain) key) at) (sym c.in_ok-push.ensures.ok)
    (hung_kept c.args.chains.now.items c.in-Some.key c.args.set c.index_mut.result.now (c.requires c.in-Some.key c.in-Some.is) c.index_mut.ensures.value key at there)

pub returns-in_ok-push-clause-ok : goal.returns-in_ok-push-clause-ok
returns-in_ok-push-clause-ok c =
    subst (IsChained (slice_set c.args.chains.now.items c.in-Some.key c.push.new.self) c.args.set) (sym c.in-Some.is)
    (subst (λ chain. Has (chain_of (slice_set c.args.chains.now.items c.in-Some.key chain) c.in-Some.key) c.args.set) (sym c.in_ok-push.ensures.ok)
    (hung_there c.args.chains.now.items c.in-Some.key c.args.set c.index_mut.result.now (c.requires c.in-Some.key c.in-Some.is)))
