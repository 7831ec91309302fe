use Rattle.std.proofs.Common.{◌+◌, ◌-◌, ◌≡◌, ◌≤◌, ◌++◌, reverse}
use Rattle.std.specs.List.{range_with_len}
use Rattle.board_tree.proofs.lines.push_down.Given as goal

abbrev pub invariant-numbers : goal.invariant-numbers
invariant-numbers l = (l.left ≤ l.count) × (l.waiting.items ≡ l.initial.waiting.items ++ reverse (range_with_len (l.first + l.left) (l.count - l.left)))

abbrev pub decreases-numbers : goal.decreases-numbers
decreases-numbers l = l.left
