use Rattle.std.proofs.Common.{◌≡◌, length}
use Rattle.mg_word.specs.Sets.{is_rising}
use Rattle.term_text.proofs.lits.is_rising.Given as goal

abbrev pub invariant-loop-rest : goal.invariant-loop-rest
invariant-loop-rest l = is_rising l.lits ≡ is_rising l.rest

abbrev pub decreases-loop-rest : goal.decreases-loop-rest
decreases-loop-rest l = length l.rest
