use Rattle.std.proofs.Common.{◌≡◌, get_or, length, ltb, sym, ap, ◌∙◌}
use Rattle.tree_checker.specs.LitTables.{times}
use Rattle.tree_checker.proofs.NumberTimes.{counted_below, held_times, not_held}
use Rattle.tree_checker.proofs.trail.Trail.holds.Goals as goal

pub returns-in-Some : goal.returns-in-Some
returns-in-Some c =
    let below = counted_below c.self.inside.counts.items c.self.inside.numbers.items (length c.self.inside.table) c.self.invariant.1 c.self.invariant.0 in
    let count : c.count_of.result ≡ times c.in-Some.number c.self.inside.numbers.items =
    c.count_of.ensures ∙ ap (λ counts. get_or counts c.in-Some.number 0) c.deref.ensures.value ∙ c.self.invariant.1 c.in-Some.number in
    rw (← c.self.view_is) (ap (ltb 0) count ∙ sym (held_times c.self.inside.table c.args.lit.now c.in-Some.number c.self.inside.numbers.items c.in-Some.ensures.different (sym c.in-Some.ensures.number) below))

pub returns-in-None : goal.returns-in-None
returns-in-None c =
    let below = counted_below c.self.inside.counts.items c.self.inside.numbers.items (length c.self.inside.table) c.self.invariant.1 c.self.invariant.0 in
    rw (← c.self.view_is) (sym (not_held c.self.inside.table c.args.lit.now c.self.inside.numbers.items (sym c.in-None.ensures.number) below))
