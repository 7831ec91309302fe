use Rattle.std.proofs.Common.{◌++◌, ◌∷◌, [], arith, subst, sym, ap, ◌∙◌}
use Rattle.std.proofs.lemmas.Option.{slice_get_within}
use Rattle.key_watch.specs.declared.key.Key.{Key}
use Rattle.key_watch.specs.Keys.{Watched}
use Rattle.key_watch.specs.KeyNumbers.{IsNumbered, watched_by}
use Rattle.key_watch.proofs.NamedKeys.{either_then, err_anyway, err_then, numbered_now, ok_then, push_numbered, push_seen, seen_now}
use Rattle.key_watch.proofs.watch.Watch.push.Goals as goal

pub returns-in_err-number-clause-err : goal.returns-in_err-number-clause-err
returns-in_err-number-clause-err c =
    err_anyway c.from_residual.result _ (seen_now c.self.inside.table c.number_of.new.table c.number_of.ensures.grows c.number_of.ensures.different c.self.inside.numbers c.number_of.new.numbers c.self.invariant c.number_of.ensures.numbers c.number_of.ensures.room ∙ c.self.view_is)

pub push-requires : goal.push-requires
push-requires c =
    let small = slice_get_within c.number_of.new.table c.in_ok-number.number _ c.in_ok-number.ensures.number in
    let room = c.number_of.ensures.room in
    omega (arith, small, room)

pub invariant_of-self-2 : goal.invariant_of-self-2
invariant_of-self-2 c =
    let key : Key = record { side = c.args.side; lit = c.args.lit.now } in
    either_then c.push.result _ _ (IsNumbered c.number_of.new.table c.push.new.self) c.push.ensures.ok c.push.ensures.err
    (λ is. push_numbered c.self.inside.table c.number_of.new.table c.number_of.ensures.grows c.number_of.ensures.different c.self.inside.numbers c.number_of.new.numbers c.self.invariant c.number_of.ensures.numbers c.number_of.ensures.room c.in_ok-number.number key c.in_ok-number.ensures.number c.push.new.self is)
    (λ is. subst (IsNumbered c.number_of.new.table) (sym is) (numbered_now c.self.inside.table c.number_of.new.table c.number_of.ensures.grows c.number_of.ensures.different c.self.inside.numbers c.number_of.new.numbers c.self.invariant c.number_of.ensures.numbers c.number_of.ensures.room))

pub returns-clause-ok : goal.returns-clause-ok
returns-clause-ok c =
    let key : Key = record { side = c.args.side; lit = c.args.lit.now } in
    ok_then c.push.result _ _ c.push.ensures.ok
    (λ is. push_seen c.self.inside.table c.number_of.new.table c.number_of.ensures.grows c.number_of.ensures.different c.self.inside.numbers c.number_of.new.numbers c.self.invariant c.number_of.ensures.numbers c.number_of.ensures.room c.in_ok-number.number key c.in_ok-number.ensures.number c.push.new.self is
    ∙ ap (λ (watched : Watched). record watched { path = watched.path ++ key ∷ [] }) c.self.view_is)

pub returns-clause-err : goal.returns-clause-err
returns-clause-err c =
    err_then c.push.result _ _ c.push.ensures.err
    (λ is. ap (watched_by c.number_of.new.table) is ∙ (seen_now c.self.inside.table c.number_of.new.table c.number_of.ensures.grows c.number_of.ensures.different c.self.inside.numbers c.number_of.new.numbers c.self.invariant c.number_of.ensures.numbers c.number_of.ensures.room ∙ c.self.view_is))
