-- What an event does to a board, and the board after a journal.
use Rattle.std.specs.Prelude.{List, None, Option, Some, [], length, slice_get, slice_set, ◌++◌, ◌∷◌}
use Rattle.mg_meaning.specs.Folding.{rejecting}
use Rattle.tree_board.specs.Boards.{Board, pair_at}
use Rattle.tree_board.specs.Children.{children_of}
use Rattle.tree_board.specs.Closings.{climb}
use Rattle.tree_board.specs.Events.{node_of}
use Rattle.tree_board.specs.NodeStates.{Covered, Found, Heavy, Rejected, Settled, Split}
use Rattle.tree_board.specs.Nodes.{Node}
use Rattle.tree_board.specs.Settings.{Setting}
use Rattle.tree_board.specs.declared.event.Event.{Event}
use Rattle.tree_board.specs.declared.event.Event.TheVariants.{ByLemma, Covered as CoveredBy, Extend, Heavy as TooHeavy, Reject, Saturated}

-- the event's node, settled
abbrev pub settled : Board → Node → Event → Node
settled board node (Extend number inst) = record node { state = Split inst (length board.nodes) }
settled board node (Reject number inst) = record node { state = Rejected inst; own = Some (rejecting inst) }
settled board node (ByLemma number lemma) = record node { state = Settled lemma; own = pair_at board.kept lemma }
settled board node (Saturated number) = record node { state = Found }
settled board node (CoveredBy number by) = record node { state = Covered by }
settled board node (TooHeavy number inst) = record node { state = Heavy inst }

-- the nodes that the event makes
abbrev pub born : Board → Node → Event → List Node
born board node (Extend number inst) = children_of (length board.nodes) node.path node.lits node.barred inst.conclusions
born board node (Reject number inst) = []
born board node (ByLemma number lemma) = []
born board node (Saturated number) = []
born board node (CoveredBy number by) = []
born board node (TooHeavy number inst) = []

-- the event at its node, before any closing upwards
abbrev pub moved : Board → Node → Event → Board
moved board node event = record {
  nodes = slice_set board.nodes (node_of event) (settled board node event) ++ born board node event;
  kept = board.kept;
  journal = board.journal ++ event ∷ [];
}

abbrev pub effect_at : Setting → Board → Event → Option Node → Board
effect_at setting board event None = board
effect_at setting board event (Some node) = climb setting node.path (moved board node event)

-- the board after the event, with all closings that follow from it
unfoldable pub effect : Setting → Board → Event → Board
effect setting board event = effect_at setting board event (slice_get board.nodes (node_of event))

-- the board after these events
unfoldable pub replay_from : Setting → Board → List Event → Board
replay_from setting board [] = board
replay_from setting board (event ∷ events) = replay_from setting (effect setting board event) events
