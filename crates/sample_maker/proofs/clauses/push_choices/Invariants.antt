use Rattle.std.proofs.Common.{◌≡◌, ◌++◌, ◌-◌, map}
use Rattle.sample_maker.specs.Sample as sample
use Rattle.sample_maker.proofs.clauses.push_choices.Given as goal

abbrev pub invariant-loop-i : goal.invariant-loop-i
invariant-loop-i l = l.clauses.items ≡ l.initial.clauses.items ++ map sample.choice (sample.up_to (l.i - 1))
