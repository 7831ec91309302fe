-- The order of nodes in the tree.
use Rattle.std.specs.Cmp.Lexicographic.{slice_cmp}
use Rattle.std.specs.Ordering.{nat_cmp}
use Rattle.std.specs.Prelude.{ℕ, Some, reverse, slice_get, ◌≡◌, ◌≢◌}
use Rattle.std.specs.declared.cmp.Ordering.{Ordering}
use Rattle.std.specs.declared.cmp.Ordering.TheVariants.{Less}
use Rattle.tree_board.specs.Boards.{Board}
use Rattle.tree_board.specs.NodeStates.{Open}
use Rattle.tree_board.specs.Nodes.{Node}

-- tree order: by the paths from the root, number by number, a node before those below it
abbrev pub tree_cmp : Node → Node → Ordering
tree_cmp a b = slice_cmp nat_cmp (reverse a.path) (reverse b.path)

-- the first open node in tree order
pub record IsFirstOpen (board : Board) (number : ℕ) : Type 0 where
  pub node : Node
  pub is : slice_get board.nodes number ≡ Some node
  pub opened : node.state ≡ Open
  pub first : (k : ℕ) (other : Node) → slice_get board.nodes k ≡ Some other → other.state ≡ Open → tree_cmp other node ≢ Less
