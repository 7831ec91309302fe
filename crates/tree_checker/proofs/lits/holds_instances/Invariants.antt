use Rattle.std.proofs.Common.{◌≡◌, true, take}
use Rattle.mg_word.specs.Sets.{is_part}
use Rattle.mg_word.specs.Words.{lit_instances}
use Rattle.tree_checker.proofs.lits.holds_instances.Given as goal

abbrev pub invariant-loop-lit : goal.invariant-loop-lit
invariant-loop-lit l = is_part (lit_instances l.subst (take l.lit-index l.lits)) l.trail ≡ true
