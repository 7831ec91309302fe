use Rattle.std.proofs.Common.{◌≡◌, drop}
use Rattle.tptp_lexer.specs.Comments.{before_close}
use Rattle.tptp_lexer.proofs.Shifts.{shifted}
use Rattle.tptp_lexer.proofs.comments.before_close.Given as goal

abbrev pub invariant-loop-i : goal.invariant-loop-i
invariant-loop-i l = before_close l.bytes ≡ shifted l.i (before_close (drop l.i l.bytes))
