use Rattle.std.proofs.Common.{◌≡◌, take}
use Rattle.minimal_test.specs.Places.{places_of}
use Rattle.minimal_test.proofs.places.places_of.Given as goal

abbrev pub invariant-loop-lit : goal.invariant-loop-lit
invariant-loop-lit l = l.places.items ≡ places_of l.set (take l.lit-index l.lits)
