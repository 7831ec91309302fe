-- No more extensions than the budget, and so few nodes.
use Rattle.std.proofs.Common.{◌≡◌, ◌+◌, ◌<◌, ◌≤◌, ◌^◌, length, [], ◌∷◌, ap, subst, ◌∙◌, arith}
use Rattle.mg_word.specs.Facts.{IsProblem}
use Rattle.tree_board.specs.declared.board.TheConstants.{MOST_BUDGET}
use Rattle.tree_board.specs.declared.event.Event.{Event}
use Rattle.tree_board.specs.declared.event.Event.TheVariants.{Extend, Reject, ByLemma, Saturated, Covered as CoveredBy, Heavy as TooHeavy}
use Rattle.tree_board.specs.Boards.{Board, opening, count}
use Rattle.tree_board.specs.Effects.{effect}
use Rattle.tree_board.specs.Events.{extends_in}
use Rattle.tree_board.specs.Lawful.{lemma_for, cover_for, IsDue, IsLawful, IsReplay}
use Rattle.tree_board.specs.Nodes.{Node}
use Rattle.tree_board.specs.Settings.{Setting}
use Rattle.tree_board.proofs.Bounds.{boards_bounded}
use Rattle.tree_board.proofs.Counting.{extends-append}
use Rattle.tree_board.proofs.Journals.{effect_journal}
use Rattle.tree_board.proofs.Replays.{replay_keeps}

adds : (setting : Setting) (board : Board) (node : Node) (event : Event) → IsDue setting board node (lemma_for board node) (cover_for setting.mode board node) event → count board ≤ setting.limits.budget → count board + extends_in (event ∷ []) ≤ setting.limits.budget
adds setting board node (Extend number inst) due holds = let room = due.5 in omega (arith, room)
adds setting board node (Reject number inst) due holds = omega (arith, holds)
adds setting board node (ByLemma number which) due holds = omega (arith, holds)
adds setting board node (Saturated number) due holds = omega (arith, holds)
adds setting board node (CoveredBy number cover) due holds = omega (arith, holds)
adds setting board node (TooHeavy number inst) due holds = omega (arith, holds)

pub within_budget : (setting : Setting) (board : Board) → IsReplay setting board → count board ≤ setting.limits.budget
within_budget setting board replay = subst (λ one. count one ≤ setting.limits.budget) replay.is (replay_keeps setting (λ one. count one ≤ setting.limits.budget) step replay.events opening (let none : 0 ≤ setting.limits.budget = omega arith in none) replay.lawful)
  where
    step : (one : Board) (event : Event) → count one ≤ setting.limits.budget → IsLawful setting one event → count (effect setting one event) ≤ setting.limits.budget
    step one event holds lawful =
        let same : count (effect setting one event) ≡ count one + extends_in (event ∷ []) = ap extends_in (effect_journal setting one event lawful) ∙ extends-append one.journal (event ∷ []) in
        let sum = adds setting one lawful.node event lawful.due holds in
        omega (arith, same, sum)

pub few_nodes : (setting : Setting) (board : Board) → IsProblem setting.problem → IsReplay setting board → setting.limits.budget ≤ MOST_BUDGET → length board.nodes < 2 ^ 32
few_nodes setting board real replay most =
    let spent = within_budget setting board replay in
    let nodes = (boards_bounded setting board real replay).nodes in
    omega (arith, spent, nodes, most)
