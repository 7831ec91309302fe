use Rattle.std.proofs.Common.{arith, sym, ◌∙◌}
use Rattle.std.proofs.lemmas.Bool.Decides.{nat_tests}
use Rattle.tptp_lexer.proofs.Steps.{first_flaw-step, first_flaw-end}
use Rattle.tptp_lexer.proofs.quotes.first_flaw.Goals as goal

pub returns-then-not-is_printable : goal.returns-then-not-is_printable
returns-then-not-is_printable c =
    let step = first_flaw-step c.args.quote c.loop-i.paired c.args.bytes.now c.loop-i.i (omega arith) in
    grind (arith, nat_tests)

pub returns-then-not-begins_escaped : goal.returns-then-not-begins_escaped
returns-then-not-begins_escaped c =
    let step = first_flaw-step c.args.quote c.loop-i.paired c.args.bytes.now c.loop-i.i (omega arith) in
    grind (arith, nat_tests)

pub loop-i-preserved : goal.loop-i-preserved
loop-i-preserved c =
    let step = first_flaw-step c.args.quote c.loop-i.paired c.args.bytes.now c.loop-i.i (omega arith) in
    grind (arith, nat_tests)

pub returns : goal.returns
returns c = sym (c.loop-i.invariant ∙ first_flaw-end c.args.quote c.loop-i.paired c.args.bytes.now c.loop-i.i (omega arith))
