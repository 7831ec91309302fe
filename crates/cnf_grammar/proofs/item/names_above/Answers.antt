-- A literal that was passed over has no word, or is not above the last number.
use Rattle.cnf_grammar.proofs.Common.{◌≡◌, ◌<◌, ◌≤◌, false, length, get_or, arith, names_above}
use Rattle.cnf_grammar.proofs.ItemNumbers.{step_over}
use Rattle.cnf_grammar.proofs.item.names_above.Goals as goal
use Rattle.cnf_grammar.proofs.item.names_above.Goals.{else-last-position-via-then-last-position+else-word, else-last-position-via-else-last-position}

pub loop-position-preserved : goal.loop-position-preserved
loop-position-preserved c =
    let i = c.loop-position.position in
    let within : i < length c.args.words.now = omega arith in
    let none : c.args.last ≤ i → get_or c.args.words.now i false ≡ false =
    elim c.else-last-position.branch [
      | else-last-position-via-then-last-position+else-word w ↦ λ h. w.if-word.false
      | else-last-position-via-else-last-position w ↦ λ h. absurd (omega arith)
    ] in
    step_over c.args.words.now c.args.last i (names_above c.args.words.now c.args.last) within none c.loop-position.invariant
