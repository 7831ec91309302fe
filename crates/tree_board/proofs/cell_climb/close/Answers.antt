use Rattle.std.proofs.Common.{ap, sym, subst, ◌+◌, ◌∙◌}
use Rattle.tree_board.specs.CellClimbs.{AreFew, with_if}
use Rattle.tree_board.specs.Settings.{small}
use Rattle.tree_board.proofs.Restores.{few_more, noted}
use Rattle.tree_board.proofs.cell_climb.close.Goals as goal

pub returns-clause-cells : goal.returns-clause-cells
returns-clause-cells c = noted _ _ _ _ _ c.close_cell-cell.ensures.was c.close_cell-cell.ensures.now _ _ _ c.in_ok-reserve.ensures.items c.push_reserved.ensures.items

pub returns-clause-few : goal.returns-clause-few
returns-clause-few c =
    let room = c.len.ensures ∙ c.args.trail.now.lemmas.ok.0 in
    let kept = few_more c.args.count c.args.node c.in-Some.lemma c.args.trail.now.lemmas.items c.requires.few in
    subst (AreFew c.args.count) (sym (c.in_ok-number.ensures.lemmas ∙ ap (λ n. with_if (small (c.args.count + n) c.args.node c.in-Some.lemma) c.args.trail.now.lemmas.items c.in-Some.lemma) room)) kept
