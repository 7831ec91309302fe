use Rattle.sample_maker.specs.Sample as sample
use Rattle.std.proofs.Common.{arith}
use Rattle.std.proofs.lemmas.Grind.{common_steps}
use Rattle.sample_maker.proofs.Symbols.{pushed}
use Rattle.sample_maker.proofs.clauses.push_choices.Goals as goal

pub loop-i-preserved : goal.loop-i-preserved
loop-i-preserved c = pushed sample.choice c.loop-i.i c.args.clauses.now.items c.loop-i.clauses.items _ (omega arith) c.loop-i.invariant (grind (arith, common_steps))
