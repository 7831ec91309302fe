use Rattle.std.proofs.Common.{◌≡◌, ◌∷◌, ◌++◌, [], None, ap, false, subst, ◌∙◌}
use Rattle.mg_word.specs.Facts.{IsProblem}
use Rattle.tree_board.specs.declared.cell.Settled.TheVariants.{Open}
use Rattle.tree_board.specs.declared.cell.Cell.{Cell}
use Rattle.tree_board.proofs.Starting.{starts}
use Rattle.tree_board.proofs.board.Board.new.Goals as goal

pub invariant_of-result : goal.invariant_of-result
invariant_of-result c =
    let real = subst IsProblem (c.held.view_is ∙ c.deref-held.ensures) c.held.invariant in
    let root : Cell = record { parent = 0; settled = Open; is_closed = false; lemma = None; own_lemma = None } in
    let cells : c.push.new.self.items ≡ root ∷ [] = c.in_ok-push.ensures.items ∙ ap (λ items. items ++ root ∷ []) c.new-cells.ensures.items in
    starts _ _ _ _ _ _ _ _ real c.requires.budget c.requires.weight c.new.ensures.items cells c.new-2.ensures.items c.in_ok-new.ensures c.new-4.ensures.items
