use Rattle.std.proofs.Common.{length, drop, ◌≤◌, ◌-◌}
use Rattle.term_text.specs.Terms.{AtArgument}
use Rattle.term_text.proofs.terms.take_term.Given as goal

abbrev pub invariant-loop-kind : goal.invariant-loop-kind
invariant-loop-kind l = record {
  argument : AtArgument l.bytes l.raws.items l.opens.items (drop l.at l.bytes);
  within : l.at ≤ length l.bytes;
}

abbrev pub decreases-loop-kind : goal.decreases-loop-kind
decreases-loop-kind l = length l.bytes - l.at
