use Rattle.std.proofs.Common.{◌≡◌, take}
use Rattle.clause_form.specs.Renumbering.{pattern_renumbered}
use Rattle.clause_form.proofs.renumbering.renumbered_pattern.Given as goal

abbrev pub invariant-loop-item : goal.invariant-loop-item
invariant-loop-item l = l.copied.items ≡ pattern_renumbered l.numbers (take l.item-index l.items)
