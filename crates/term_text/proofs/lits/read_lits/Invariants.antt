use Rattle.std.proofs.Common.{length}
use Rattle.term_text.specs.Lists.{AtLit}
use Rattle.term_text.proofs.lits.read_lits.Given as goal

abbrev pub invariant-loop-list : goal.invariant-loop-list
invariant-loop-list l = AtLit l.symbols l.bytes l.rest l.list.lits.items l.list.has_unknown l.list.has_heavy

abbrev pub decreases-loop-list : goal.decreases-loop-list
decreases-loop-list l = length l.rest
