use Rattle.std.proofs.Common.{sym, ap, subst, ◌∙◌, arith, get_or, drop, ◌+◌}
use Rattle.tptp_lexer.specs.Spots.{passed}
use Rattle.tptp_lexer.proofs.Places.{IsBehind, passed-step, passed-end, past-behind}
use Rattle.tptp_lexer.proofs.spot.pass.Goals as goal

pub loop-b-preserved : goal.loop-b-preserved
loop-b-preserved c =
    let near = subst (λ s. IsBehind c.loop-b.spot 1 s) (sym c.past-spot.ensures) (past-behind c.loop-b.spot (get_or c.args.bytes.now c.loop-b.b-index 0)) in
    let inv = c.loop-b.invariant in (
      inv.0
          ∙ passed-step c.loop-b.spot c.args.bytes.now c.loop-b.b-index (omega arith)
          ∙ ap (λ s. passed s (drop (c.loop-b.b-index + 1) c.args.bytes.now)) (sym c.past-spot.ensures),
      omega (arith, near.offset, inv.1),
      omega (arith, near.line, inv.2),
      omega (arith, near.column, inv.3),
    )

pub returns : goal.returns
returns c = sym (c.loop-b.invariant.0 ∙ passed-end c.loop-b.spot c.args.bytes.now c.loop-b.b-index (omega arith))
