use Rattle.std.proofs.Common.{arith, sym, ◌∙◌}
use Rattle.std.proofs.lemmas.Bool.Decides.{nat_tests}
use Rattle.tptp_lexer.proofs.Steps.{before_close-step, before_close-end}
use Rattle.tptp_lexer.proofs.comments.before_close.Goals as goal
use Rattle.tptp_lexer.proofs.comments.before_close.Goals.{else-b-eq42-via-then-b-eq42+else-begins_with, else-b-eq42-via-else-b-eq42}

pub returns-then-begins_with : goal.returns-then-begins_with
returns-then-begins_with c =
    let step = before_close-step c.args.bytes.now c.loop-i.i (omega arith) in
    grind (arith, nat_tests)

pub loop-i-preserved : goal.loop-i-preserved
loop-i-preserved c =
    let step = before_close-step c.args.bytes.now c.loop-i.i (omega arith) in
    elim c.else-b-eq42.branch [ else-b-eq42-via-then-b-eq42+else-begins_with w ↦ grind (arith, nat_tests) | else-b-eq42-via-else-b-eq42 w ↦ grind (arith, nat_tests) ]

pub returns : goal.returns
returns c = sym (c.loop-i.invariant ∙ before_close-end c.args.bytes.now c.loop-i.i (omega arith))
