use Rattle.std.proofs.Common.{arith, ◌∷◌, [], None}
use Rattle.key_watch.proofs.Watches.{more_chains, more_places}
use Rattle.std.proofs.lemmas.List.{length-append}
use Rattle.key_watch.proofs.number_watch.NumberWatch.add_key.Goals as goal

pub invariant_of-self-in_err-push-2 : goal.invariant_of-self-in_err-push-2
invariant_of-self-in_err-push-2 c =
    rw (c.in_err-push-2.ensures.items, c.in_ok-push.ensures.items) (more_places _ _ _ _ _ _ c.self.invariant)

pub invariant_of-self-2 : goal.invariant_of-self-2
invariant_of-self-2 c =
    let sized = c.self.invariant.sized in
    let longer = length-append c.self.inside.places.items (None ∷ []) in
    rw (c.in_ok-push-2.ensures.items, c.new.ensures, c.in_ok-push.ensures.items) (more_chains _ _ _ _ _ _ (more_places _ _ _ _ _ _ c.self.invariant) (omega (arith, sized, longer)))
