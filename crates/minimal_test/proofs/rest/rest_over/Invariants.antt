use Rattle.std.proofs.Common.{ℕ, List, ◌++◌, take}
use Rattle.minimal_test.specs.Rests.{IsRest}
use Rattle.minimal_test.proofs.rest.rest_over.Given as goal

abbrev pub invariant-loop-at : goal.invariant-loop-at
invariant-loop-at l = (before : List ℕ) → IsRest l.sides l.is_in before l.fn.rest → IsRest l.sides l.is_in (before ++ take l.at l.places) l.left
