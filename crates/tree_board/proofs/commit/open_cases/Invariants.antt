use Rattle.std.proofs.Common.{◌≡◌, take}
use Rattle.tree_board.specs.Claims.{open_cases}
use Rattle.tree_board.proofs.commit.open_cases.Given as goal

abbrev pub invariant-loop-i : goal.invariant-loop-i
invariant-loop-i l = l.numbers.items ≡ open_cases l.first (take l.i l.cases)
