use Rattle.std.proofs.Common.{◌≡◌, drop, false}
use Rattle.tptp_lexer.specs.Quotes.{before_quote}
use Rattle.tptp_lexer.proofs.Shifts.{shifted}
use Rattle.tptp_lexer.proofs.quotes.before_quote.Given as goal

abbrev pub invariant-loop-i : goal.invariant-loop-i
invariant-loop-i l = before_quote l.quote false l.bytes ≡ shifted l.i (before_quote l.quote l.paired (drop l.i l.bytes))
