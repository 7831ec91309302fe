use Rattle.std.proofs.Common.{◌≡◌, ◌∷◌, ◌++◌, ◌+◌, [], ap, ap₂, arith, length, sym, ◌∙◌}
use Rattle.std.proofs.lemmas.Iterator.Adapters.{YieldsList-from_vec}
use Rattle.std.proofs.lemmas.Iterator.Consumers.{YieldsList-turn}
use Rattle.tree_board.specs.CellMoves.{born_cell, closures_by, with_closure}
use Rattle.tree_board.proofs.CaseCells.{cells_push, closures_few, closures_push}
use Rattle.tree_board.proofs.cell_moves.born.Goals as goal

pub reasons-preserved : goal.reasons-preserved
reasons-preserved c =
    let yielded = c.reasons.yielded in
    let place : c.args.first + c.len-in-reasons.result ≡ c.args.first + length (closures_by yielded) = ap (λ n. c.args.first + n) (c.len-in-reasons.ensures ∙ (c.reasons.closures.ok.0 ∙ ap length c.reasons.invariant.1)) in
    let cell : c.in_ok-born_cell.field-0 ≡ born_cell c.args.parent (c.args.first + length (closures_by yielded)) c.in-Some.reason = c.in_ok-born_cell.ensures ∙ ap (λ n. born_cell c.args.parent n c.in-Some.reason) place in (
      c.in_ok-push.ensures.items
          ∙ (ap₂ (λ some one. some ++ one ∷ []) c.reasons.invariant.0 cell ∙ sym (cells_push c.args.parent c.args.first yielded c.in-Some.reason)),
      c.in_ok-push_reason.ensures
          ∙ (ap (λ some. some ++ with_closure c.in-Some.reason []) c.reasons.invariant.1 ∙ sym (closures_push yielded c.in-Some.reason)),
    )

pub overflow_cast-place : goal.overflow_cast-place
overflow_cast-place c =
    let gives = c.into_iter-reason-iterator.ensures.into_iter_gives in
    let turn = YieldsList-turn (YieldsList-from_vec {s = c.into_iter-reason-iterator.result} c.args.reasons.items gives.0 (gives.1 ∙ c.args.reasons.ok.0)) c.reasons.yielded c.reasons.reason-iterator c.reasons.yielded_by c.next.result c.next.new.self c.in-Some.reason c.in-Some.is c.next.ensures.steps in
    let size = ap length c.reasons.invariant.1 in
    let fewer = closures_few c.reasons.yielded in
    omega (arith, turn.0, size, fewer, c.requires, c.len-in-reasons.ensures, c.reasons.closures.ok.0)

pub overflow_add-place : goal.overflow_add-place
overflow_add-place c =
    let gives = c.into_iter-reason-iterator.ensures.into_iter_gives in
    let turn = YieldsList-turn (YieldsList-from_vec {s = c.into_iter-reason-iterator.result} c.args.reasons.items gives.0 (gives.1 ∙ c.args.reasons.ok.0)) c.reasons.yielded c.reasons.reason-iterator c.reasons.yielded_by c.next.result c.next.new.self c.in-Some.reason c.in-Some.is c.next.ensures.steps in
    let size = ap length c.reasons.invariant.1 in
    let fewer = closures_few c.reasons.yielded in
    omega (arith, turn.0, size, fewer, c.requires, c.len-in-reasons.ensures, c.reasons.closures.ok.0)
