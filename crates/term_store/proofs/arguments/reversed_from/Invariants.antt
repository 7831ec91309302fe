use Rattle.std.proofs.Common.{◌≡◌, ◌≤◌, length, drop, reverse}
use Rattle.term_store.proofs.arguments.reversed_from.Given as goal

abbrev pub invariant-loop-at : goal.invariant-loop-at
invariant-loop-at l = (l.start ≤ l.at) × (l.at ≤ length l.numbers) × (l.made.items ≡ reverse (drop l.at l.numbers))

abbrev pub decreases-loop-at : goal.decreases-loop-at
decreases-loop-at l = l.at
