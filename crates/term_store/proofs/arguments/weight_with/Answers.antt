use Rattle.std.proofs.Common.{slice_index, arith}
use Rattle.std.proofs.lemmas.List.Sums.{sum_by_more_le}
use Rattle.term_store.proofs.arguments.weight_with.Goals as goal

pub overflow_add-weight : goal.overflow_add-weight
overflow_add-weight c =
    omega (arith, sum_by_more_le (λ argument. slice_index c.args.weights.now argument) c.args.arguments.now c.loop-argument.argument-index 0 c.loop-argument-test.true)
