-- The sets that a search has found.
use Rattle.std.specs.Prelude.{ℕ, Contains, IsTrue, List, Some, slice_get, ◌↔◌, ◌≡◌}
use Rattle.mg_word.specs.Sets.{set_of}
use Rattle.mg_word.specs.declared.lit.Lit.{Lit}
use Rattle.mg_meaning.specs.Minimality.{IsMinimal, are_sets_rising}
use Rattle.tree_board.specs.Boards.{Board}
use Rattle.tree_board.specs.NodeStates.{Found}
use Rattle.tree_board.specs.Nodes.{Node}
use Rattle.tree_board.specs.Settings.{Setting}

-- the set is that of a found node
pub record IsFoundSet (board : Board) (set : List Lit) : Type 0 where
  pub number : ℕ
  pub node : Node
  pub is : slice_get board.nodes number ≡ Some node
  pub found : node.state ≡ Found
  pub same : set_of node.lits ≡ set

-- the leaves: exactly the found sets, as rising lists in the order of sets
pub record ListsFound (board : Board) (sets : List (List Lit)) : Type 0 where
  pub rising : IsTrue (are_sets_rising sets)
  pub exact : (set : List Lit) → Contains sets set ↔ IsFoundSet board set

-- exactly the found sets that are minimal, as rising lists in the order of sets
pub record ListsMinimalFound (setting : Setting) (board : Board) (sets : List (List Lit)) : Type 0 where
  pub rising : IsTrue (are_sets_rising sets)
  pub exact : (set : List Lit) → Contains sets set ↔ (IsFoundSet board set × IsMinimal set setting.problem)
