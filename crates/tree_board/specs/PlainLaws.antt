-- Boards against the plain tree.
use Rattle.std.specs.Prelude.{ℕ, IsTrue, Some, [], slice_get, ◌≡◌, ◌≤◌}
use Rattle.mg_word.specs.Facts.{IsProblem}
use Rattle.mg_word.specs.declared.form.Inst.{Inst}
use Rattle.mg_meaning.specs.PlainTree.{Plain}
use Rattle.tree_board.specs.Boards.{Board}
use Rattle.tree_board.specs.Lawful.{IsReplay}
use Rattle.tree_board.specs.Laws.{HasEvent}
use Rattle.tree_board.specs.NodeStates.{Heavy, Open}
use Rattle.tree_board.specs.Nodes.{Node}
use Rattle.tree_board.specs.Settings.{Setting}
use Rattle.tree_board.specs.Splits.{is_below, splits_below}
use Rattle.tree_board.specs.Standing.{state_of}
use Rattle.tree_board.specs.Stuck.{IsStuck}
use Rattle.tree_board.specs.declared.mode.BoardState.TheVariants.{Blocked}
use Rattle.tree_board.specs.declared.mode.Limit.{Limit}

-- where the plain tree from a node has a number of extensions, no more stand at the node and below it, and no heavy node does
pub record IsWithinPlain (board : Board) (number extends : ℕ) : Type 0 where
  pub splits : splits_below number board.nodes ≤ extends
  pub no_heavy : (k : ℕ) (below : Node) (inst : Inst) → slice_get board.nodes k ≡ Some below → IsTrue (is_below number below) → below.state ≡ Heavy inst → ⊥

abbrev pub PlainBounds : Type 0
PlainBounds = (setting : Setting) (board : Board) → IsProblem setting.problem → IsReplay setting board
    → (number : ℕ) (node : Node) → slice_get board.nodes number ≡ Some node → (extends : ℕ) → Plain setting.problem setting.limits.weight node.lits node.barred extends → IsWithinPlain board number extends

-- a stuck board that a limit blocks has no plain tree within the budget
abbrev pub StuckExceeds : Type 0
StuckExceeds = (setting : Setting) (board : Board) → IsProblem setting.problem → IsReplay setting board → IsStuck setting board → (limit : Limit) → state_of setting board ≡ Blocked limit
    → (extends : ℕ) → extends ≤ setting.limits.budget → Plain setting.problem setting.limits.weight [] [] extends → ⊥

-- where the plain tree fits the limits, an event is lawful at each open node, and no node is heavy
pub record GoesOn (setting : Setting) (board : Board) : Type 0 where
  pub event : (number : ℕ) (node : Node) → slice_get board.nodes number ≡ Some node → node.state ≡ Open → HasEvent setting board number
  pub no_heavy : (number : ℕ) (node : Node) (inst : Inst) → slice_get board.nodes number ≡ Some node → node.state ≡ Heavy inst → ⊥

abbrev pub PlainGoesOn : Type 0
PlainGoesOn = (setting : Setting) (board : Board) → IsProblem setting.problem → IsReplay setting board → (extends : ℕ) → extends ≤ setting.limits.budget → Plain setting.problem setting.limits.weight [] [] extends → GoesOn setting board
