use Rattle.std.proofs.Common.{◌∷◌, ◌++◌, [], ap₂, sym, ◌∙◌}
use Rattle.tree_board.proofs.AlongPaths.{reasons_more}
use Rattle.tree_board.proofs.path.Path.reasons.Goals as goal

pub loop-index-preserved : goal.loop-index-preserved
loop-index-preserved c =
    c.in_ok-push.ensures.items
    ∙ (ap₂ (λ some one. some ++ one ∷ []) c.loop-index.invariant c.in_ok-reason.ensures
    ∙ sym (reasons_more c.args.self.now.branch.lits c.args.self.now.barred c.args.conclusions.now c.loop-index.index c.index-conclusions-index.result c.loop-index-test.true c.index-conclusions-index.is))
