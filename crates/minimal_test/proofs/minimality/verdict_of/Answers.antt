use Rattle.minimal_test.proofs.PartRules.{none_listed, taken_listed}
use Rattle.minimal_test.proofs.minimality.verdict_of.Goals as goal

pub returns-in-None : goal.returns-in-None
returns-in-None c = λ problem real asks.
    none_listed problem real c.args.set.now c.as_slice-lits.result.now c.args.rules.now asks c.as_slice-lits.ensures.same (rw c.in-None.is at c.in_ok-solve.ensures)

pub returns-in_ok-smaller-in-Some : goal.returns-in_ok-smaller-in-Some
returns-in_ok-smaller-in-Some c = λ problem real asks.
    taken_listed problem real c.args.set.now c.as_slice-lits.result.now c.args.rules.now c.in-Some.sides.items c.as_slice.result.now c.in_ok-part-in-Some.part.items c.in_ok-smaller-in-Some.smaller
    asks c.as_slice-lits.ensures.same c.as_slice-lits.ensures.rising (rw c.in-Some.is at c.in_ok-solve.ensures) c.as_slice.ensures.value c.in_ok-part-in-Some.ensures c.in_ok-smaller-in-Some.ensures
