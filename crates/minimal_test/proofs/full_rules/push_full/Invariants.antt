use Rattle.std.proofs.Common.{◌≡◌, ◌++◌, take}
use Rattle.std.specs.List.{flat_map}
use Rattle.minimal_test.specs.FullRules.{full_rule}
use Rattle.minimal_test.proofs.full_rules.push_full.Given as goal

abbrev pub invariant-loop-full : goal.invariant-loop-full
invariant-loop-full l = l.rules.items ≡ l.initial.rules.items ++ flat_map (full_rule l.stacks l.set) (take l.full-index l.matches)
