use Rattle.std.proofs.Common.{◌≡◌, ℕ, ◌<◌, ◌≤◌, length, get_or}
use Rattle.minimal_test.specs.declared.rule.Rule.{Rule}
use Rattle.minimal_test.specs.Paths.{Extends}
use Rattle.minimal_test.specs.Settled.{IsSettled}
use Rattle.minimal_test.proofs.propagation.settle_all.Given as goal

abbrev pub invariant-loop-number : goal.invariant-loop-number
invariant-loop-number l = record {
  extends : Extends l.rules l.initial.path l.path;
  handed : l.path.handed ≤ length l.path.trail.items;
  cursor : l.path.handed ≡ l.initial.path.handed;
  settled : (number : ℕ) (d : Rule) → number < l.number → number < length l.rules → IsSettled l.path (get_or l.rules number d);
}
