use Rattle.std.proofs.Common.{◌≡◌, ◌≤◌, length, drop}
use Rattle.mg_meaning.specs.Parts.{parts_of}
use Rattle.mg_meaning.proofs.minimal.all_parts.Given as goal

abbrev pub invariant-loop-at : goal.invariant-loop-at
invariant-loop-at l = (l.at ≤ length l.lits) × (l.parts.items ≡ parts_of (drop l.at l.lits))

abbrev pub decreases-loop-at : goal.decreases-loop-at
decreases-loop-at l = l.at
