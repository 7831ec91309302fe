-- Open nodes that a kept lemma or a found set settles.
use Rattle.std.specs.Prelude.{ℕ, None, Option, Some, slice_get, ◌≡◌}
use Rattle.tree_board.specs.Boards.{Board}
use Rattle.tree_board.specs.Events.{node_of}
use Rattle.tree_board.specs.Lawful.{IsLawful, cover_for, lemma_for}
use Rattle.tree_board.specs.NodeStates.{Open}
use Rattle.tree_board.specs.Nodes.{Node}
use Rattle.tree_board.specs.Settings.{Setting}
use Rattle.tree_board.specs.declared.event.Event.{Event}
use Rattle.tree_board.specs.declared.event.Event.TheVariants.{ByLemma, Covered as CoveredBy, Extend, Heavy as TooHeavy, Reject, Saturated}

-- an open node has this number
pub record IsOpenAt (board : Board) (number : ℕ) : Type 0 where
  pub node : Node
  pub is : slice_get board.nodes number ≡ Some node
  pub opened : node.state ≡ Open

-- no kept lemma applies to the node with this number, and no found set covers it
abbrev pub IsUntouched : Setting → Board → ℕ → Type 0
IsUntouched setting board number = (node : Node) → slice_get board.nodes number ≡ Some node → (lemma_for board node ≡ None) × (cover_for setting.mode board node ≡ None)

-- the event is that of a kept lemma, or of a found set
abbrev pub IsQuick : Event → Type 0
IsQuick (ByLemma number lemma) = Unit {0}
IsQuick (CoveredBy number by) = Unit {0}
IsQuick (Extend number inst) = ⊥
IsQuick (Reject number inst) = ⊥
IsQuick (Saturated number) = ⊥
IsQuick (TooHeavy number inst) = ⊥

-- the event is that of a kept lemma, or of a found set, at this node, and may come next
abbrev pub IsSettlingBy : Setting → Board → ℕ → Event → Type 0
IsSettlingBy setting board number event = (node_of event ≡ number) × IsQuick event × IsLawful setting board event

-- the event by which a kept lemma or a found set settles the open node with this number; none where neither does
abbrev pub IsSettling : Setting → Board → ℕ → Option Event → Type 0
IsSettling setting board number None = IsUntouched setting board number
IsSettling setting board number (Some event) = IsSettlingBy setting board number event
