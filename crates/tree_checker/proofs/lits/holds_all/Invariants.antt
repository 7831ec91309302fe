use Rattle.std.proofs.Common.{◌≡◌, true, take}
use Rattle.mg_word.specs.Sets.{is_part}
use Rattle.tree_checker.proofs.lits.holds_all.Given as goal

abbrev pub invariant-loop-lit : goal.invariant-loop-lit
invariant-loop-lit l = is_part (take l.lit-index l.lits) l.trail ≡ true
