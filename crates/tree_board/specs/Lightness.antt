-- How heavy the literals of a board are.
use Rattle.std.specs.Prelude.{ℕ, All, List, Some, length, slice_get, ◌≡◌, ◌≤◌}
use Rattle.mg_word.specs.Facts.{IsProblem}
use Rattle.mg_word.specs.declared.lit.Lit.{Lit}
use Rattle.tree_board.specs.Boards.{Board}
use Rattle.tree_board.specs.Lawful.{IsReplay}
use Rattle.tree_board.specs.Nodes.{Node}
use Rattle.tree_board.specs.Settings.{Setting}

-- no literal has more symbols than that
abbrev pub AreLight : ℕ → List Lit → Type 0
AreLight limit lits = All (λ lit. length lit.word ≤ limit) lits

-- the literals of each node weigh at most the limit
abbrev pub LiteralsAreLight : Type 0
LiteralsAreLight = (setting : Setting) (board : Board) → IsProblem setting.problem → IsReplay setting board → (number : ℕ) (node : Node) → slice_get board.nodes number ≡ Some node → AreLight setting.limits.weight node.lits
