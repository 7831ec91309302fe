-- The board as plain data.
use Rattle.std.specs.Prelude.{ℕ, Bool, List, None, Option, Some, [], is_some, option_map, slice_get, ◌∷◌}
use Rattle.mg_word.specs.Words.{numbered}
use Rattle.mg_meaning.specs.Folding.{Pair}
use Rattle.tree_board.specs.Events.{extends_in}
use Rattle.tree_board.specs.NodeStates.{Open}
use Rattle.tree_board.specs.Nodes.{Node}
use Rattle.tree_board.specs.declared.event.Event.{Event}

-- a kept lemma, with the node whose lemma it is
pub record Kept : Type 0 where
  pub node : ℕ
  pub pair : Pair

pub record Board : Type 0 where
  -- by number
  pub nodes : List Node
  -- numbered from 1
  pub kept : List Kept
  -- all events so far
  pub journal : List Event

-- the root alone, open, without literals
abbrev pub opening : Board
opening = record {
  nodes = record { path = 0 ∷ []; lits = []; barred = []; state = Open; own = None } ∷ [];
  kept = [];
  journal = [];
}

abbrev pub count : Board → ℕ
count board = extends_in board.journal

-- the lemma of the kept one with this number
abbrev pub pair_at : List Kept → ℕ → Option Pair
pair_at kept number = option_map (λ one. one.pair) (numbered kept number)

abbrev pub own_of : Option Node → Option Pair
own_of None = None
own_of (Some node) = node.own

-- the node is closed
abbrev pub is_closed : Board → ℕ → Bool
is_closed board number = is_some (own_of (slice_get board.nodes number))
