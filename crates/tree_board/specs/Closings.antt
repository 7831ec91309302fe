-- How nodes are closed, from a settled node upwards.
use Rattle.std.specs.Prelude.{ℕ, Bool, List, None, Option, Some, [], false, if◌then◌else◌, length, option_map, slice_get, slice_set, suc, true, ◌++◌, ◌∷◌}
use Rattle.mg_word.specs.declared.lit.Lit.{Lit}
use Rattle.mg_meaning.specs.Folding.{Pair, folded}
use Rattle.tree_board.specs.Boards.{Board, Kept, is_closed, own_of}
use Rattle.tree_board.specs.NodeStates.{Covered, Found, Heavy, NodeState, Open, Rejected, Settled, Shut, Split}
use Rattle.tree_board.specs.Nodes.{Node}
use Rattle.tree_board.specs.Settings.{Setting}

abbrev pub cons_pair : Option Pair → Option (List Pair) → Option (List Pair)
cons_pair None pairs = None
cons_pair (Some pair) None = None
cons_pair (Some pair) (Some pairs) = Some (pair ∷ pairs)

-- the lemmas of the children for these conclusions, numbered from there, where each is closed
abbrev pub pairs_at : List Node → ℕ → List Lit → Option (List Pair)
pairs_at nodes first [] = Some []
pairs_at nodes first (lit ∷ lits) = cons_pair (own_of (slice_get nodes first)) (pairs_at nodes (suc first) lits)

-- the lemma of a node that can be closed: it is split, not closed yet, and all its children are
abbrev pub due_state : List Node → NodeState → Option Pair
due_state nodes (Split inst first) = option_map (folded inst) (pairs_at nodes first inst.conclusions)
due_state nodes Open = None
due_state nodes (Rejected inst) = None
due_state nodes (Settled lemma) = None
due_state nodes (Shut closure) = None
due_state nodes Found = None
due_state nodes (Covered by) = None
due_state nodes (Heavy inst) = None

abbrev pub due_own : List Node → NodeState → Option Pair → Option Pair
due_own nodes state None = due_state nodes state
due_own nodes state (Some pair) = None

abbrev pub due : List Node → Node → Option Pair
due nodes node = due_own nodes node.state node.own

-- the kept lemmas with this node's, where the rule keeps it
abbrev pub kept_with : Bool → List Kept → ℕ → Pair → List Kept
kept_with true kept number pair = kept ++ record { node = number; pair = pair } ∷ []
kept_with false kept number pair = kept

-- the node with this lemma, closed
abbrev pub closed_with : Setting → Board → ℕ → Node → Pair → Board
closed_with setting board number node pair = record {
  nodes = slice_set board.nodes number (record node { own = Some pair });
  kept = kept_with (setting.keeps (length board.kept) number pair) board.kept number pair;
  journal = board.journal;
}

abbrev pub closed_by : Setting → Board → ℕ → Node → Option Pair → Board
closed_by setting board number node None = board
closed_by setting board number node (Some pair) = closed_with setting board number node pair

abbrev pub closed_node : Setting → Board → ℕ → Option Node → Board
closed_node setting board number None = board
closed_node setting board number (Some node) = closed_by setting board number node (due board.nodes node)

-- the board where the node is closed if it can be
unfoldable pub closed_at : Setting → Board → ℕ → Board
closed_at setting board number = closed_node setting board number (slice_get board.nodes number)

-- up the path: each node is closed if it can be, as long as the one below is closed
unfoldable pub climb : Setting → List ℕ → Board → Board
climb setting [] board = board
climb setting (number ∷ above) board =
    if is_closed (closed_at setting board number) number then climb setting above (closed_at setting board number) else closed_at setting board number
