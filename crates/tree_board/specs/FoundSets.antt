-- The sets of found nodes, by the numbers of the nodes.
use Rattle.std.specs.Prelude.{Bool, List, None, Option, Some, [], false, true, ◌∷◌}
use Rattle.mg_word.specs.Sets.{set_of}
use Rattle.mg_word.specs.declared.lit.Lit.{Lit}
use Rattle.tree_board.specs.NodeStates.{is_found}
use Rattle.tree_board.specs.Nodes.{Node}

abbrev pub set_if : Bool → List Lit → List (List Lit) → List (List Lit)
set_if true set sets = set ∷ sets
set_if false set sets = sets

-- the set of each found node
abbrev pub found_sets : List Node → List (List Lit)
found_sets [] = []
found_sets (node ∷ nodes) = set_if (is_found node.state) (set_of node.lits) (found_sets nodes)

-- the set of a node, if it is there and found
abbrev pub found_set : Option Node → List (List Lit)
found_set None = []
found_set (Some node) = set_if (is_found node.state) (set_of node.lits) []
