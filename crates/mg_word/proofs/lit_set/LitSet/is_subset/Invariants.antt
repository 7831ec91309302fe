use Rattle.std.proofs.Common.{◌≡◌, ◌≤◌, length, drop}
use Rattle.mg_word.specs.Sets.{is_part}
use Rattle.mg_word.proofs.lit_set.LitSet.is_subset.Given as goal

abbrev pub invariant-loop-held : goal.invariant-loop-held
invariant-loop-held l = (l.done ≤ length l.part) × (is_part l.self l.other ≡ is_part (drop l.done l.part) (drop l.held-index l.held-items))
