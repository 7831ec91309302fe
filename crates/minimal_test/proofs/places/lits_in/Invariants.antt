use Rattle.std.proofs.Common.{◌≡◌, ◌++◌, drop}
use Rattle.minimal_test.specs.Choices.{chosen_of}
use Rattle.minimal_test.specs.Places.{chosen_from}
use Rattle.minimal_test.proofs.places.lits_in.Given as goal

abbrev pub invariant-loop-place : goal.invariant-loop-place
invariant-loop-place l = l.lits.items ++ chosen_from (chosen_of l.sides) l.place (drop l.place l.set) ≡ chosen_from (chosen_of l.sides) 0 l.set
