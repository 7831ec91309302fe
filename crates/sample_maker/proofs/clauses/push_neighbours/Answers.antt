use Rattle.std.proofs.Common.{◌≡◌, ◌-◌, arith}
use Rattle.std.proofs.lemmas.Grind.{common_steps}
use Rattle.sample_maker.specs.Sample as sample
use Rattle.sample_maker.proofs.Symbols.{pushed}
use Rattle.sample_maker.proofs.clauses.push_neighbours.Goals as goal

pub loop-i-preserved : goal.loop-i-preserved
loop-i-preserved c = pushed (sample.neighbours c.args.size) c.loop-i.i c.args.clauses.now.items c.loop-i.clauses.items _ (omega arith) c.loop-i.invariant (grind (arith, common_steps))

pub returns : goal.returns
returns c = let last : c.loop-i.i - 1 ≡ c.args.size - 1 = omega arith in rw last at c.loop-i.invariant
