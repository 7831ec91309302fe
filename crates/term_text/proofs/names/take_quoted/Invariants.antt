use Rattle.std.proofs.Common.{length}
use Rattle.term_text.specs.Names.{IsUnquoting}
use Rattle.term_text.proofs.names.take_quoted.Given as goal

abbrev pub invariant-loop-rest : goal.invariant-loop-rest
invariant-loop-rest l = IsUnquoting l.quote l.bytes l.rest l.name.items

abbrev pub decreases-loop-rest : goal.decreases-loop-rest
decreases-loop-rest l = length l.rest
