use Rattle.std.proofs.Common.{◌≡◌, ◌-◌, ◌++◌, ◌∷◌, [], ℕ, get_or, ap, ◌∙◌, arith}
use Rattle.std.proofs.lemmas.List.{length-set}
use Rattle.std.proofs.lemmas.Grind.{get_or_default_zero}
use Rattle.tree_checker.specs.LitTables.{times}
use Rattle.tree_checker.proofs.NumberTimes.{counted_within, counted_popped, times_last}
use Rattle.tree_checker.proofs.trail.Trail.drop_last.Goals as goal

pub index_mut-requires : goal.index_mut-requires
index_mut-requires c =
    let counted : get_or c.self.inside.counts.items c.in-Some.number 0 ≡ times c.in-Some.number (c.pop.new.self.items ++ c.in-Some.number ∷ []) = c.self.invariant.1 c.in-Some.number ∙ ap (times c.in-Some.number) c.in-Some.ensures.items in
    let within = counted_within c.self.inside.counts.items c.in-Some.number (rw counted (times_last c.in-Some.number c.pop.new.self.items)) in
    omega (arith, within)

pub overflow_sub-index_mut : goal.overflow_sub-index_mut
overflow_sub-index_mut c =
    let counted : get_or c.self.inside.counts.items c.in-Some.number 0 ≡ times c.in-Some.number (c.pop.new.self.items ++ c.in-Some.number ∷ []) = c.self.invariant.1 c.in-Some.number ∙ ap (times c.in-Some.number) c.in-Some.ensures.items in
    let some = times_last c.in-Some.number c.pop.new.self.items in
    let within = counted_within c.self.inside.counts.items c.in-Some.number (rw counted some) in
    let count = c.index_mut.ensures.value ∙ get_or_default_zero c.self.inside.counts.items c.in-Some.number c.index_mut.result.now within ∙ counted in
    omega (arith, count, some)

pub invariant_of-self : goal.invariant_of-self
invariant_of-self c =
    let counted : (number : ℕ) → get_or c.self.inside.counts.items number 0 ≡ times number (c.pop.new.self.items ++ c.in-Some.number ∷ []) = λ number. c.self.invariant.1 number ∙ ap (times number) c.in-Some.ensures.items in
    let within = counted_within c.self.inside.counts.items c.in-Some.number (rw (counted c.in-Some.number) (times_last c.in-Some.number c.pop.new.self.items)) in
    let count = c.index_mut.ensures.value ∙ get_or_default_zero c.self.inside.counts.items c.in-Some.number c.index_mut.result.now within ∙ counted c.in-Some.number in
    let long = length-set c.self.inside.counts.items c.in-Some.number (c.index_mut.result.now - 1) in
    (omega (arith, long, c.self.invariant.0), counted_popped c.self.inside.counts.items c.pop.new.self.items c.in-Some.number c.index_mut.result.now counted within count)
