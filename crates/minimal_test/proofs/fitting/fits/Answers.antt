use Rattle.std.proofs.Common.{drop, sym, ap, ◌∙◌, arith}
use Rattle.mg_word.specs.Words.{are_terms}
use Rattle.minimal_test.proofs.FitSteps.{terms_over, terms_few, terms_unknown, terms_more}
use Rattle.minimal_test.proofs.fitting.fits.Goals as goal
use Rattle.minimal_test.proofs.fitting.fits.Goals.{then-wanted-eq0-via-then-wanted-eq0, then-wanted-eq0-via-else-wanted-eq0+then-wanted-word, then-wanted-eq0-via-else-wanted-eq0+else-wanted-word+then-symbol-len}

pub returns-then-wanted-eq0 : goal.returns-then-wanted-eq0
returns-then-wanted-eq0 c =
    let table = c.args.symbols.now in
    let word = c.args.word.now in
    sym (c.loop-at.invariant ∙ elim c.then-wanted-eq0.branch [
      | then-wanted-eq0-via-then-wanted-eq0 w ↦ ap (λ n. are_terms table n (drop c.loop-at.at word)) w.if-wanted-eq0.true ∙ terms_over table word c.loop-at.at (omega arith)
      | then-wanted-eq0-via-else-wanted-eq0+then-wanted-word w ↦ terms_few table word c.loop-at.at c.loop-at.wanted (omega (arith, w.if-wanted-word.true))
      | then-wanted-eq0-via-else-wanted-eq0+else-wanted-word+then-symbol-len w ↦ terms_unknown table word c.loop-at.at c.loop-at.wanted (omega arith) (omega (arith, w.if-symbol-len.true, w.len.ensures.value))
    ])

pub loop-at-preserved : goal.loop-at-preserved
loop-at-preserved c =
    c.loop-at.invariant ∙ terms_more c.args.symbols.now c.args.word.now c.loop-at.at c.loop-at.wanted c.arity.result (omega arith) (omega (arith, c.if-wanted-eq0.false)) (omega (arith, c.if-symbol-len.false, c.len.ensures.value)) c.arity.ensures
