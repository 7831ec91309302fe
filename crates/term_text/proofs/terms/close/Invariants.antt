use Rattle.std.proofs.Common.{length, drop, ◌≤◌}
use Rattle.term_text.specs.Terms.{AfterArgument}
use Rattle.term_text.proofs.terms.close.Given as goal

abbrev pub invariant-loop-level : goal.invariant-loop-level
invariant-loop-level l = record {
  after : AfterArgument l.bytes l.raws.items l.opens.items (drop l.at l.bytes);
  from : l.fn.start ≤ l.at;
  within : l.at ≤ length l.bytes;
}

abbrev pub decreases-loop-level : goal.decreases-loop-level
decreases-loop-level l = length l.opens.items
