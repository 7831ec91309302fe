use Rattle.std.proofs.Common.{List, [], ◌++◌, ◌+◌, ap₂, sym, ◌∙◌, ℕ}
use Rattle.case_split.specs.declared.child.Child.{Child}
use Rattle.tree_board.specs.Claims.{open_case}
use Rattle.tree_board.proofs.Claiming.{open_cases_more}
use Rattle.tree_board.proofs.commit.open_cases.Goals as goal

pub loop-i-preserved : goal.loop-i-preserved
loop-i-preserved c =
    c.in_ok-push_open_case.ensures
    ∙ (ap₂ (λ (numbers : List ℕ) (case : Child). numbers ++ open_case case.at_once (c.args.first + c.loop-i.i) []) c.loop-i.invariant c.index-cases-i.is
    ∙ sym (open_cases_more c.args.first c.args.cases.now c.loop-i.i c.index-cases-i.result c.loop-i-test.true))
