use Rattle.std.proofs.Common.{◌≡◌, ◌-◌}
use Rattle.sample_maker.specs.Sample as sample
use Rattle.sample_maker.proofs.making.sample_symbols.Given as goal

abbrev pub invariant-loop-i : goal.invariant-loop-i
invariant-loop-i l = l.symbols ≡ sample.sample_symbols (l.i - 1)
