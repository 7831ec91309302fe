use Rattle.std.proofs.Common.{arith}
use Rattle.word_trials.proofs.TermSteps.{term_step, term_done}
use Rattle.word_trials.proofs.fitting.is_one_term.Goals as goal

pub loop-id-init : goal.loop-id-init
loop-id-init c fit = fit

pub loop-id-preserved : goal.loop-id-preserved
loop-id-preserved c fit =
    c.loop-id.invariant
    (term_step c.args.symbols.now c.args.word.now c.loop-id.id-index c.loop-id.wanted c.arity.result c.in-Some.more
    c.loop-id-test.true (omega (arith, c.len.ensures.value, c.if-id-len.false)) c.arity.ensures (omega (arith, c.if-wanted-eq0.false)) c.in-Some.ensures.1 fit)

pub returns : goal.returns
returns c none = c.loop-id.invariant (term_done c.args.symbols.now c.args.word.now c.loop-id.id-index c.loop-id.wanted c.loop-id-test.false none)
