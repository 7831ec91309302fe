use Rattle.std.proofs.Common.{◌≡◌, ◌≤◌, length, take}
use Rattle.minimal_test.proofs.holding.common_front.Given as goal

abbrev pub invariant-loop-front : goal.invariant-loop-front
invariant-loop-front l = record {
  within : l.front ≤ length l.those;
  common : take l.front l.these ≡ take l.front l.those;
}
