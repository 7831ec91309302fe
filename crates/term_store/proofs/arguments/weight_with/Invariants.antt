use Rattle.std.proofs.Common.{◌≡◌, ◌+◌, take, slice_index, sum_by}
use Rattle.term_store.proofs.arguments.weight_with.Given as goal

abbrev pub invariant-loop-argument : goal.invariant-loop-argument
invariant-loop-argument l = l.weight ≡ sum_by (λ argument. slice_index l.weights argument) (take l.argument-index l.arguments) + 1
