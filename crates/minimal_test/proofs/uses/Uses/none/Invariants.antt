use Rattle.std.proofs.Common.{◌≡◌, length}
use Rattle.minimal_test.proofs.uses.Uses.none.Given as goal

abbrev pub invariant-loop : goal.invariant-loop
invariant-loop l = length l.rules_at.items ≡ l.counter
