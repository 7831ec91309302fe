use Rattle.std.proofs.Common.{◌-◌, take, sym, ◌∙◌, arith, rules}
use Rattle.tree_checker.proofs.Frames.{AreNested-pop, AreNested-more, pending-push, goals_of-none, next-nested, next-pending}
use Rattle.tree_checker.proofs.frame.go_back.Goals as goal

pub begin_next-requires-clause-counted : goal.begin_next-requires-clause-counted
begin_next-requires-clause-counted c = (AreNested-pop 0 0 c.pop.new.self.items c.in-Some.frame _ _ (rw c.in-Some.ensures.items at c.loop-frame.invariant.nested)).counted

pub begin_next-requires-clause-reached : goal.begin_next-requires-clause-reached
begin_next-requires-clause-reached c = (AreNested-pop 0 0 c.pop.new.self.items c.in-Some.frame _ _ (rw c.in-Some.ensures.items at c.loop-frame.invariant.nested)).held

pub returns-in-Some-clause-next : goal.returns-in-Some-clause-next
returns-in-Some-clause-next c =
    sym c.loop-frame.invariant.same ∙ rw (c.in-Some.ensures.items, c.in_ok-push.ensures.items)
    (next-pending c.loop-frame.held c.loop-frame.barred (take (c.in-Some.frame.held - 1) c.loop-frame.held) c.begin_next.new.held c.begin_next.new.barred
    c.pop.new.self.items c.in-Some.frame c.begin_next.new.frame c.in_ok-begin_next.ensures.barred.0 c.in-Some-pop.lit
    (rw c.in-Some.ensures.items at c.loop-frame.invariant.nested)
    c.in_ok-begin_next.ensures.barred.1 c.in_ok-begin_next.ensures.held c.in_ok-begin_next.ensures.barred.2
    (rw (c.in_ok-begin_next.ensures.same_later) c.in-Some-pop.ensures.items)
    c.in_ok-begin_next.ensures.same_held c.in_ok-begin_next.ensures.all_barred)

pub returns-in-Some-clause-nested : goal.returns-in-Some-clause-nested
returns-in-Some-clause-nested c _ =
    rw c.in_ok-push.ensures.items
    (next-nested c.loop-frame.held c.loop-frame.barred (take (c.in-Some.frame.held - 1) c.loop-frame.held) c.begin_next.new.held c.begin_next.new.barred
    c.pop.new.self.items c.in-Some.frame c.begin_next.new.frame c.in_ok-begin_next.ensures.barred.0 c.in-Some-pop.lit
    (rw c.in-Some.ensures.items at c.loop-frame.invariant.nested)
    c.in_ok-begin_next.ensures.barred.1 c.in_ok-begin_next.ensures.held c.in_ok-begin_next.ensures.barred.2
    (rw (c.in_ok-begin_next.ensures.same_later) c.in-Some-pop.ensures.items)
    c.in_ok-begin_next.ensures.same_held c.in_ok-begin_next.ensures.all_barred)

pub loop-frame-preserved : goal.loop-frame-preserved
loop-frame-preserved c =
    let popped = AreNested-pop 0 0 c.pop.new.self.items c.in-Some.frame _ _ (rw c.in-Some.ensures.items at c.loop-frame.invariant.nested) in
    let x = c.in_default-pop.not-Some in let y = c.in_default-pop.is in let z = c.in_default-pop.ensures.cases in
    let none = goals_of-none c.loop-frame.held c.loop-frame.barred c.in-Some.frame (search rules) in
    record {
      nested = AreNested-more 0 0 c.pop.new.self.items (c.in-Some.frame.held - 1) c.in-Some.frame.barred _ _ popped.below (omega (arith, popped.held)) popped.barred;
      same =
          sym (rw none at (pending-push c.loop-frame.held c.loop-frame.barred c.pop.new.self.items c.in-Some.frame))
          ∙ rw c.in-Some.ensures.items at c.loop-frame.invariant.same;
    }
