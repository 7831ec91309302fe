use Rattle.std.proofs.Common.{◌≡◌, drop, false}
use Rattle.tptp_lexer.specs.Quotes.{first_flaw}
use Rattle.tptp_lexer.proofs.Shifts.{later}
use Rattle.tptp_lexer.proofs.quotes.first_flaw.Given as goal

abbrev pub invariant-loop-i : goal.invariant-loop-i
invariant-loop-i l = first_flaw l.quote false l.bytes ≡ later l.i (first_flaw l.quote l.paired (drop l.i l.bytes))
