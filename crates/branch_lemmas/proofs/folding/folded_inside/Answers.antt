use Rattle.std.proofs.Common.{◌≡◌, ◌∙◌, ap, sym, length, arith}
use Rattle.branch_lemmas.proofs.Folds.{inside_turn}
use Rattle.branch_lemmas.proofs.folding.folded_inside.Goals as goal

pub loop-index-preserved : goal.loop-index-preserved
loop-index-preserved c =
    let long : length c.args.lemmas.now ≡ length c.as_slice-conclusions.result.now = c.requires ∙ ap length (sym c.as_slice-conclusions.ensures) in
    inside_turn _ _ _ _ c.as_slice-conclusions.result.now c.args.lemmas.now c.loop-index.index _ c.index-lemmas-index.result c.loop-index-test.true long c.index-lemmas-index.is (omega arith) (c.as_slice.ensures.same ∙ ap (λ one. one.inside) c.lemma.view_is) c.in_ok-push_without.ensures c.loop-index.invariant
