use Rattle.std.proofs.Common.{◌≡◌, ◌++◌, take}
use Rattle.std.specs.List.{flat_map}
use Rattle.minimal_test.specs.Places.{stray_rules}
use Rattle.minimal_test.proofs.listing.push_strays.Given as goal

abbrev pub invariant-loop-lit : goal.invariant-loop-lit
invariant-loop-lit l = l.rules.items ≡ l.initial.rules.items ++ flat_map (stray_rules l.symbols l.set) (take l.lit-index l.set)
