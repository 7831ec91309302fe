-- The nodes of the search tree.
use Rattle.std.specs.Prelude.{ℕ, List, Option}
use Rattle.mg_word.specs.declared.lit.Lit.{Lit}
use Rattle.mg_meaning.specs.Folding.{Pair}
use Rattle.tree_board.specs.NodeStates.{NodeState}

pub record Node : Type 0 where
  -- its number, its parent's, and so on up to the root's
  pub path : List ℕ
  -- in path order
  pub lits : List Lit
  -- rising
  pub barred : List Lit
  pub state : NodeState
  -- its lemma, where it is closed
  pub own : Option Pair
