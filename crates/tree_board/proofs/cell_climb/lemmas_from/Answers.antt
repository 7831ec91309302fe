use Rattle.std.proofs.Common.{◌∷◌, ◌++◌, ◌+◌, ◌<◌, [], ap, drop, length, option_map, subst, sym, ◌∙◌}
use Rattle.tree_board.specs.CellClimbs.{lemmas_from}
use Rattle.tree_board.proofs.CellClosings.{lemmas_none, lemmas_some}
use Rattle.tree_board.proofs.cell_climb.lemmas_from.Goals as goal

pub returns-in-None : goal.returns-in-None
returns-in-None c =
    let small : c.children.index < length c.args.inst.now.conclusions = subst (λ n. c.children.index < n) (ap length c.as_slice-size.ensures) c.children-test.true in
    lemmas_none c.args.cells.now c.args.first c.args.inst.now.conclusions c.children.lemmas.items c.children.index c.children.invariant small c.in-None.ensures

pub children-preserved : goal.children-preserved
children-preserved c =
    let small : c.children.index < length c.args.inst.now.conclusions = subst (λ n. c.children.index < n) (ap length c.as_slice-size.ensures) c.children-test.true in
    let more = lemmas_some c.args.cells.now c.args.first c.args.inst.now.conclusions c.children.lemmas.items c.children.index c.children.invariant small c.in-Some.lemma.now c.in-Some.ensures in
    more ∙ ap (λ pushed. option_map (λ rest. pushed ++ rest) (lemmas_from c.args.cells.now (c.args.first + (c.children.index + 1)) (drop (c.children.index + 1) c.args.inst.now.conclusions)))
    (sym (c.in_ok-push-in-Some.ensures.items ∙ ap (λ one. c.children.lemmas.items ++ one ∷ []) c.in_ok-copied-in-Some.ensures))
