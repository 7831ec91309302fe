-- The first open node after another in tree order.
use Rattle.std.specs.Prelude.{ℕ, None, Option, Some, slice_get, ◌≡◌, ◌≢◌}
use Rattle.std.specs.declared.cmp.Ordering.TheVariants.{Less}
use Rattle.tree_board.specs.Boards.{Board}
use Rattle.tree_board.specs.Facts.{IsAmong}
use Rattle.tree_board.specs.NodeStates.{Open}
use Rattle.tree_board.specs.Nodes.{Node}
use Rattle.tree_board.specs.TreeOrder.{tree_cmp}

-- the node comes after the one with that number; where no number is given, each node does
abbrev pub ComesAfter : Board → Option ℕ → Node → Type 0
ComesAfter board None node = Unit {0}
ComesAfter board (Some number) node = (start : Node) × (slice_get board.nodes number ≡ Some start) × (tree_cmp start node ≡ Less)

-- an open node that comes after it
pub record IsOpenAfter (board : Board) (after : Option ℕ) (number : ℕ) (node : Node) : Type 0 where
  pub is : slice_get board.nodes number ≡ Some node
  pub opened : node.state ≡ Open
  pub later : ComesAfter board after node

-- the first open node in tree order that comes after it
pub record IsNextOpen (board : Board) (after : Option ℕ) (number : ℕ) : Type 0 where
  pub node : Node
  pub there : IsOpenAfter board after number node
  pub first : (k : ℕ) (other : Node) → IsOpenAfter board after k other → tree_cmp other node ≢ Less

-- the answer to who asks for it: none exactly where there is none
abbrev pub AnswersNext : Board → Option ℕ → Option ℕ → Type 0
AnswersNext board after None = (k : ℕ) (node : Node) → IsOpenAfter board after k node → ⊥
AnswersNext board after (Some number) = IsNextOpen board after number

-- ---- steps of the walk

-- of the nodes that come after that one and not below it, the first in tree order
pub record IsBehind (board : Board) (number next : ℕ) : Type 0 where
  pub node : Node
  pub is : slice_get board.nodes number ≡ Some node
  pub other : Node
  pub there : slice_get board.nodes next ≡ Some other
  pub later : tree_cmp node other ≡ Less
  pub first : (k : ℕ) (one : Node) → slice_get board.nodes k ≡ Some one → tree_cmp node one ≡ Less → tree_cmp one other ≡ Less → IsAmong one.path number

-- the answer to who asks for it: none where all that come after are below
abbrev pub GoesBehind : Board → ℕ → Option ℕ → Type 0
GoesBehind board number None = (k : ℕ) (node one : Node) → slice_get board.nodes number ≡ Some node → slice_get board.nodes k ≡ Some one → tree_cmp node one ≡ Less → IsAmong one.path number
GoesBehind board number (Some next) = IsBehind board number next

-- the node comes after it, and no open node that does stands before the node
pub record IsOnTheWay (board : Board) (after : Option ℕ) (number : ℕ) : Type 0 where
  pub node : Node
  pub is : slice_get board.nodes number ≡ Some node
  pub later : ComesAfter board after node
  pub first : (k : ℕ) (other : Node) → IsOpenAfter board after k other → tree_cmp other node ≢ Less

-- where the walk goes on: nowhere where no open node comes after it
abbrev pub GoesOn : Board → Option ℕ → Option ℕ → Type 0
GoesOn board after None = AnswersNext board after None
GoesOn board after (Some number) = IsOnTheWay board after number
