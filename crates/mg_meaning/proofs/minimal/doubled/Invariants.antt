use Rattle.std.proofs.Common.{◌≡◌, take}
use Rattle.mg_meaning.specs.Parts.{with_and_without}
use Rattle.mg_meaning.proofs.minimal.doubled.Given as goal

abbrev pub invariant-loop-part : goal.invariant-loop-part
invariant-loop-part l = l.made.items ≡ with_and_without l.lit (take l.part-index l.parts)
