use Rattle.std.proofs.Common.{◌≡◌, ◌≤◌, length, take}
use Rattle.term_store.proofs.order.first_difference.Given as goal

abbrev pub invariant-loop-place : goal.invariant-loop-place
invariant-loop-place l = (l.place ≤ length l.those) × (take l.place l.these ≡ take l.place l.those)
