use Rattle.std.proofs.Common.{IsNone, refl, sym, subst}
use Rattle.key_watch.specs.KeyNumbers.{AreDifferent}
use Rattle.key_watch.proofs.NamedKeys.{different_more, either_then, number_added}
use Rattle.key_watch.proofs.key_table.KeyTable.number.Goals as goal

pub returns-in-None-clause-number : goal.returns-in-None-clause-number
returns-in-None-clause-number c = number_added c.args.self.now c.add.new.self _ c.add.result c.add.ensures.number c.add.ensures.ok

pub returns-in-None-clause-different : goal.returns-in-None-clause-different
returns-in-None-clause-different c =
    either_then c.add.result _ _ (AreDifferent c.add.new.self) c.add.ensures.ok c.add.ensures.err
    (λ is. subst AreDifferent (sym is) (different_more c.args.self.now _ c.find.ensures.different (c.find.ensures.absent (subst IsNone (sym c.in-None.is) refl))))
    (λ is. subst AreDifferent (sym is) c.find.ensures.different)
