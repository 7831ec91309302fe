-- When a search can go no further, and gives up.
use Rattle.std.specs.Prelude.{ℕ, List, None, Some, [], slice_get, ◌≡◌, ◌≢◌, ◌≤◌}
use Rattle.mg_word.specs.declared.form.Inst.{Inst}
use Rattle.mg_word.specs.declared.lit.Lit.{Lit}
use Rattle.mg_meaning.specs.Violation.{IsLeast, weight_of}
use Rattle.tree_board.specs.Boards.{Board}
use Rattle.tree_board.specs.Lawful.{IsReplay, cover_for, lemma_for}
use Rattle.tree_board.specs.Leaves.{ListsMinimalFound}
use Rattle.tree_board.specs.NodeStates.{Open}
use Rattle.tree_board.specs.Nodes.{Node}
use Rattle.tree_board.specs.Settings.{Setting}
use Rattle.tree_board.specs.Standing.{state_of}
use Rattle.tree_board.specs.declared.mode.BoardState.TheVariants.{Blocked}
use Rattle.tree_board.specs.declared.mode.Limit.{Limit}

-- no lemma applies to an open node, no found set covers it, and its least violated instance has conclusions and is not too heavy
pub record IsBlockedAt (setting : Setting) (board : Board) (node : Node) : Type 0 where
  pub lemma : lemma_for board node ≡ None
  pub cover : cover_for setting.mode board node ≡ None
  pub inst : Inst
  pub least : IsLeast setting.problem node.lits inst
  pub some : inst.conclusions ≢ []
  pub light : weight_of inst ≤ setting.limits.weight

-- each open node waits for an extension
abbrev pub IsStuck : Setting → Board → Type 0
IsStuck setting board = (number : ℕ) (node : Node) → slice_get board.nodes number ≡ Some node → node.state ≡ Open → IsBlockedAt setting board node

-- a lawful journal leads to a stuck board that the limit blocks, and these are its minimal found sets
pub record GivesUp (setting : Setting) (limit : Limit) (sets : List (List Lit)) : Type 0 where
  pub board : Board
  pub replay : IsReplay setting board
  pub stuck : IsStuck setting board
  pub blocked : state_of setting board ≡ Blocked limit
  pub minimal : ListsMinimalFound setting board sets
