use Rattle.std.proofs.Common.{◌≡◌, ◌++◌, take}
use Rattle.std.specs.List.{flat_map}
use Rattle.minimal_test.specs.Places.{clash_rules}
use Rattle.minimal_test.proofs.listing.push_clashes.Given as goal

abbrev pub invariant-loop-lit : goal.invariant-loop-lit
invariant-loop-lit l = l.rules.items ≡ l.initial.rules.items ++ flat_map (clash_rules l.set) (take l.lit-index l.set)
