use Rattle.std.proofs.Common.{◌∙◌}
use Rattle.szs_report.proofs.SetLines.{sets_step}
use Rattle.szs_report.proofs.models.add_sets.Goals as goal

pub loop-index-preserved : goal.loop-index-preserved
loop-index-preserved c =
    sets_step c.args.symbols.now c.args.sets.now c.loop-index.index c.index-sets-index.result c.args.report.now c.loop-index.report c.add.new.self c.deref.result.now c.loop-index-test.true c.index-sets-index.is c.loop-index.invariant
    (c.deref.ensures.value ∙ c.in_ok-line.ensures) c.in_ok-add.ensures
