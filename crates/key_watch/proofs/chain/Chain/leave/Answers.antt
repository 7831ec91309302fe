use Rattle.std.proofs.Common.{◌<◌, List, ℕ, arith, length, slice_get, subst, sym, ap, ◌∙◌}
use Rattle.std.specs.Vec.{vec_len}
use Rattle.key_watch.specs.Watching.{Has}
use Rattle.key_watch.proofs.Membership.{left_others}
use Rattle.key_watch.proofs.chain.Chain.leave.Goals as goal

pub returns-clause-others : goal.returns-clause-others
returns-clause-others c = λ set apart there.
    let small : c.args.at < length c.self.inside.sets.items = subst (λ (xs : List ℕ). c.args.at < length xs) (sym c.self.view_is) c.requires in
    left_others c.self.inside.sets.items c.swap_remove.new.self.items c.args.at (vec_len c.self.inside.sets) (omega arith) small (omega arith) c.swap_remove.ensures.by_index.0 c.swap_remove.ensures.by_index.1 set
    (λ e. apart (ap (λ (xs : List ℕ). slice_get xs c.args.at) (sym c.self.view_is) ∙ e)) (subst (λ (xs : List ℕ). Has xs set) (sym c.self.view_is) there)
