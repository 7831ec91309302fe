use Rattle.std.proofs.Common.{length}
use Rattle.term_text.specs.Lists.{AtTerm}
use Rattle.term_text.proofs.lists.read_list.Given as goal

abbrev pub invariant-loop-list : goal.invariant-loop-list
invariant-loop-list l = AtTerm l.symbols l.bytes l.rest l.list.words l.list.has_unknown l.list.has_heavy

abbrev pub decreases-loop-list : goal.decreases-loop-list
decreases-loop-list l = length l.rest
