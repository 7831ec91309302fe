-- The extensions at a node and below it.
use Rattle.std.specs.List.{list_any}
use Rattle.std.specs.Prelude.{ℕ, Bool, List, [], false, nat_eq, true, ◌&&◌, ◌+◌, ◌∷◌}
use Rattle.tree_board.specs.NodeStates.{is_split}
use Rattle.tree_board.specs.Nodes.{Node}

-- the node is that one or stands below it
abbrev pub is_below : ℕ → Node → Bool
is_below top node = list_any (nat_eq top) node.path

abbrev pub one_if : Bool → ℕ
one_if true = 1
one_if false = 0

-- how many extensions stand at the node and below it
abbrev pub splits_below : ℕ → List Node → ℕ
splits_below top [] = 0
splits_below top (node ∷ nodes) = one_if (is_split node.state && is_below top node) + splits_below top nodes
