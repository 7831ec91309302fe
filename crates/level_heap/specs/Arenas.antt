-- The trees that an arena of nodes holds. Each node stands after those that it leads to, and none is ever changed.
use Rattle.std.specs.Prelude.{◌≡◌, ◌⊎◌, ℕ, ◌<◌, List, [], ◌∷◌, ◌++◌, Option, Some, None, length, slice_index_or}
use Rattle.std.specs.declared.cmp.Ordering.{Ordering}
use Rattle.level_heap.specs.declared.node.HeapNode.{HeapNode}
use Rattle.level_heap.specs.Trees.{Tree, Empty, Node, IsAhead}

-- the tree that a link leads to, among these
abbrev pub linked : List Tree → Option ℕ → Tree
linked trees None = Empty
linked trees (Some at) = slice_index_or trees at Empty

-- the tree of a node that leads to these trees
abbrev pub above : List Tree → HeapNode → Tree
above trees node = Node node.item (linked trees node.left) (linked trees node.right)

-- these trees, and behind them those of the nodes, each over the trees before it
abbrev pub trees_behind : List Tree → List HeapNode → List Tree
trees_behind trees [] = trees
trees_behind trees (node ∷ nodes) = trees_behind (trees ++ above trees node ∷ []) nodes

-- the tree that a link leads to in the arena
unfoldable pub tree_at : List HeapNode → Option ℕ → Tree
tree_at nodes link = linked (trees_behind [] nodes) link

-- the link leads to one of the first so many nodes, or to none
abbrev pub IsBelow : Option ℕ → ℕ → Type 0
IsBelow None count = Unit {0}
IsBelow (Some at) count = at < count

-- the node may stand at that place: it leads to earlier ones
pub record LeadsBelow (node : HeapNode) (at : ℕ) : Type 0 where
  pub left : IsBelow node.left at
  pub right : IsBelow node.right at

pub record IsArena (nodes : List HeapNode) : Type 0 where
  pub each : (at : ℕ) (d : HeapNode) → at < length nodes → LeadsBelow (slice_index_or nodes at d) at

-- the old nodes, and more behind them
pub record Grows (old new : List HeapNode) : Type 0 where
  pub more : List HeapNode
  pub is : new ≡ old ++ more

-- these two nodes in one order or the other, the one whose top stands first in front
pub record IsChoice (order : ℕ → ℕ → Ordering) (nodes : List HeapNode) (a b front back : ℕ) : Type 0 where
  pub either : ((front ≡ a) × (back ≡ b)) ⊎ ((front ≡ b) × (back ≡ a))
  pub ahead : IsAhead order (tree_at nodes (Some front)) (tree_at nodes (Some back))
