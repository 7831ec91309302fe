-- What settles an open node at once, by its literals and its barred set.
use Rattle.std.specs.List.{position}
use Rattle.std.specs.Prelude.{ℕ, Bool, List, None, Option, Some, slice_get, ◌&&◌, ◌≡◌}
use Rattle.mg_word.specs.Sets.{is_proper_part}
use Rattle.mg_word.specs.declared.lit.Lit.{Lit}
use Rattle.tree_board.specs.declared.mode.Mode.{Mode}
use Rattle.tree_board.specs.declared.mode.Mode.TheVariants.{List as ListAll, Refute}
use Rattle.tree_board.specs.Boards.{Board}
use Rattle.tree_board.specs.NodeStates.{Open, is_found}
use Rattle.tree_board.specs.Nodes.{Node}

-- the node is found, and its set is a proper part of the literals
abbrev pub covers_lits : List Lit → Node → Bool
covers_lits lits other = is_found other.state && is_proper_part other.lits lits

-- in mode List: the least found node whose set is a proper part of the literals
abbrev pub cover_in : Mode → List Node → List Lit → Option ℕ
cover_in Refute nodes lits = None
cover_in ListAll nodes lits = position (covers_lits lits) nodes

-- an open node has this number, and these are its literals and its barred set
pub record IsOpenWith (board : Board) (number : ℕ) (lits barred : List Lit) : Type 0 where
  pub node : Node
  pub is : slice_get board.nodes number ≡ Some node
  pub opened : node.state ≡ Open
  pub held : node.lits ≡ lits
  pub bars : node.barred ≡ barred
