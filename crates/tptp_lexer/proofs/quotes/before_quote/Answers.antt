use Rattle.std.proofs.Common.{arith, sym, ◌∙◌}
use Rattle.std.proofs.lemmas.Bool.Decides.{nat_tests}
use Rattle.tptp_lexer.proofs.Steps.{before_quote-step, before_quote-end}
use Rattle.tptp_lexer.proofs.quotes.before_quote.Goals as goal

pub returns-then-is_line_end : goal.returns-then-is_line_end
returns-then-is_line_end c =
    let step = before_quote-step c.args.quote c.loop-i.paired c.args.bytes.now c.loop-i.i (omega arith) in
    grind (arith, nat_tests)

pub returns-then-not-paired : goal.returns-then-not-paired
returns-then-not-paired c =
    let step = before_quote-step c.args.quote c.loop-i.paired c.args.bytes.now c.loop-i.i (omega arith) in
    grind (arith, nat_tests)

pub loop-i-preserved : goal.loop-i-preserved
loop-i-preserved c =
    let step = before_quote-step c.args.quote c.loop-i.paired c.args.bytes.now c.loop-i.i (omega arith) in
    grind (arith, nat_tests)

pub returns : goal.returns
returns c = sym (c.loop-i.invariant ∙ before_quote-end c.args.quote c.loop-i.paired c.args.bytes.now c.loop-i.i (omega arith))
