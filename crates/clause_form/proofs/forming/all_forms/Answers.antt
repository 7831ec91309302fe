use Rattle.clause_form.proofs.Reaching.{stands_at, pushed_on}
use Rattle.clause_form.proofs.forming.all_forms.Goals as goal

pub returns-in-Err : goal.returns-in-Err
returns-in-Err c =
    stands_at c.args.clauses.now c.loop-index.index c.index-clauses-index.result c.loop-index.built.items c.in-Err.fault c.loop-index-test.true c.index-clauses-index.is
    c.loop-index.invariant.built_is c.loop-index.invariant.faultless c.in-Err.ensures

pub loop-index-preserved : goal.loop-index-preserved
loop-index-preserved c =
    let on = pushed_on c.args.clauses.now c.loop-index.index c.index-clauses-index.result c.loop-index.built.items c.push_forms.new.others.items c.loop-index-test.true c.index-clauses-index.is
    c.loop-index.invariant.built_is c.loop-index.invariant.faultless c.in-Ok.ensures in
    record { built_is = on.0; faultless = on.1 }
