use Rattle.std.proofs.Common.{length, sym, subst, ◌≤◌, arith}
use Rattle.std.proofs.lemmas.List.{take_all}
use Rattle.tree_checker.specs.Docs.{lemmas_of, IsKnown}
use Rattle.tree_checker.proofs.Verdicts.{open_at, closed_at_end, reached_more, rejects_at}
use Rattle.tree_checker.proofs.check.check_tree.Goals as goal

pub check_line-requires-clause-known : goal.check_line-requires-clause-known
check_line-requires-clause-known c =
    subst (IsKnown c.args.forms.now) (sym c.index-lines-at.is) (c.requires.known c.loop-at.at c.index-lines-at.result c.loop-at-test.true)

pub check_line-requires-clause-open : goal.check_line-requires-clause-open
check_line-requires-clause-open c =
    open_at c.args.forms.now (lemmas_of c.args.blocks.now) (record { held = c.args.held.now; barred = c.args.barred.now }) c.args.lines.now c.loop-at.at c.loop-at.walk c.index-lines-at.result c.requires.tree c.loop-at-test.true c.loop-at.invariant

pub loop-at-preserved : goal.loop-at-preserved
loop-at-preserved c =
    let some = open_at c.args.forms.now (lemmas_of c.args.blocks.now) (record { held = c.args.held.now; barred = c.args.barred.now }) c.args.lines.now c.loop-at.at c.loop-at.walk c.index-lines-at.result c.requires.tree c.loop-at-test.true c.loop-at.invariant in
    rw c.in-Ok.ensures.1
    (reached_more c.args.forms.now (lemmas_of c.args.blocks.now) (record { held = c.args.held.now; barred = c.args.barred.now }) c.args.lines.now c.loop-at.at c.loop-at.walk c.index-lines-at.result c.loop-at-test.true c.index-lines-at.is some c.loop-at.invariant c.in-Ok.ensures.0)

pub returns-in-Err : goal.returns-in-Err
returns-in-Err c =
    let some = open_at c.args.forms.now (lemmas_of c.args.blocks.now) (record { held = c.args.held.now; barred = c.args.barred.now }) c.args.lines.now c.loop-at.at c.loop-at.walk c.index-lines-at.result c.requires.tree c.loop-at-test.true c.loop-at.invariant in
    rw c.reject_line.ensures
    (rejects_at c.args.forms.now (lemmas_of c.args.blocks.now) (record { held = c.args.held.now; barred = c.args.barred.now }) c.args.lines.now c.args.first c.loop-at.at c.loop-at.walk c.index-lines-at.result c.in-Err.fault
    c.requires.tree c.loop-at-test.true c.index-lines-at.is some c.loop-at.invariant c.in-Err.ensures)

pub returns : goal.returns
returns c =
    let past : length c.args.lines.now ≤ c.loop-at.at = omega arith in
    closed_at_end c.args.forms.now (lemmas_of c.args.blocks.now) (record { held = c.args.held.now; barred = c.args.barred.now }) c.args.lines.now c.loop-at.walk c.requires.tree
    (rw (take_all c.loop-at.at c.args.lines.now past) at c.loop-at.invariant)
