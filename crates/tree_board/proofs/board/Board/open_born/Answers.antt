use Rattle.std.proofs.Common.{◌≡◌, ◌+◌, ◌<◌, ◌^◌, ap, ap₂, arith, length, subst, sym, ◌∙◌}
use Rattle.std.proofs.lemmas.Result.{IfOk-weaker}
use Rattle.tree_board.specs.Claims.{AreNewOpen, open_cases}
use Rattle.tree_board.specs.Keeping.{IsKeeping}
use Rattle.tree_board.specs.Lawful.{IsLawful}
use Rattle.tree_board.specs.Searches.{Search, board_of, setting_of}
use Rattle.tree_board.proofs.Claiming.{children_fit, extend_opens}
use Rattle.tree_board.proofs.Kept.{few_cells, nodes_kept, replay_kept}
use Rattle.tree_board.proofs.board.Board.open_born.Goals as goal

pub overflow_cast-first : goal.overflow_cast-first
overflow_cast-first c = let few = few_cells _ _ _ _ _ _ c.self.invariant in omega (arith, few)

pub open_cases-requires : goal.open_cases-requires
open_cases-requires c =
    let kept = (subst (λ one. IsKeeping one c.self.inside.cells.items c.self.inside.closures.items c.self.inside.lemmas c.self.inside.lemma_nodes.items c.self.inside.tally) c.self.view_is c.self.invariant) in
    let sizes = nodes_kept _ _ _ _ _ _ kept in
    let lawful = subst (IsLawful (setting_of c.args.self.now) (board_of c.args.self.now)) c.in-Extend.is c.requires.lawful in
    let fit = children_fit (setting_of c.args.self.now) (board_of c.args.self.now) kept.problem (replay_kept _ _ _ _ _ _ kept) kept.budget _ _ lawful _ _ _ (c.as_slice.ensures.value ∙ c.in_ok-cases-in-Extend.ensures) in
    omega (arith, sizes, fit)

pub returns-in_ok-cases-in-Extend : goal.returns-in_ok-cases-in-Extend
returns-in_ok-cases-in-Extend c =
    let kept = (subst (λ one. IsKeeping one c.self.inside.cells.items c.self.inside.closures.items c.self.inside.lemmas c.self.inside.lemma_nodes.items c.self.inside.tally) c.self.view_is c.self.invariant) in
    let sizes = nodes_kept _ _ _ _ _ _ kept in
    let first : c.len-first.result ≡ length (board_of c.args.self.now).nodes = omega (arith, sizes) in
    IfOk-weaker c.open_cases.result _ _ (λ numbers is. subst (λ event. AreNewOpen (board_of c.args.self.now) c.args.node event numbers.items) (sym c.in-Extend.is)
    (extend_opens (board_of c.args.self.now) c.args.node c.in-Extend.node _ _ c.requires.opened c.in-Extend.inst numbers.items (is ∙ ap₂ open_cases first (c.as_slice.ensures.value ∙ c.in_ok-cases-in-Extend.ensures)))) c.open_cases.ensures
