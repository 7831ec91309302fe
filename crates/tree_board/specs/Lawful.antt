-- Which event may settle an open node, and which journals are lawful.
use Rattle.std.specs.List.{position}
use Rattle.std.specs.Prelude.{ℕ, Bool, List, None, Option, Some, [], option_map, slice_get, suc, ◌&&◌, ◌<◌, ◌∷◌, ◌≡◌, ◌≢◌, ◌≤◌}
use Rattle.mg_word.specs.Sets.{is_proper_part}
use Rattle.mg_meaning.specs.Folding.{applies}
use Rattle.mg_meaning.specs.Violation.{IsLeast, IsSaturated, weight_of}
use Rattle.tree_board.specs.Boards.{Board, Kept, count, opening}
use Rattle.tree_board.specs.Effects.{effect, replay_from}
use Rattle.tree_board.specs.Events.{node_of}
use Rattle.tree_board.specs.NodeStates.{Open, is_found}
use Rattle.tree_board.specs.Nodes.{Node}
use Rattle.tree_board.specs.Settings.{Setting}
use Rattle.tree_board.specs.declared.event.Event.{Event}
use Rattle.tree_board.specs.declared.event.Event.TheVariants.{ByLemma, Covered as CoveredBy, Extend, Heavy as TooHeavy, Reject, Saturated}
use Rattle.tree_board.specs.declared.mode.Mode.{Mode}
use Rattle.tree_board.specs.declared.mode.Mode.TheVariants.{List as ListAll, Refute}

-- the lemma applies: the node holds its inside and bars its outside
abbrev pub applies_at : Node → Kept → Bool
applies_at node kept = applies kept.pair node.lits node.barred

-- the least number of a kept lemma that applies
abbrev pub lemma_for : Board → Node → Option ℕ
lemma_for board node = option_map suc (position (applies_at node) board.kept)

-- the other is found, and its set is a proper part of the node's literals
abbrev pub covers : Node → Node → Bool
covers node other = is_found other.state && is_proper_part other.lits node.lits

-- in mode List: the least found node whose set is a proper part
abbrev pub cover_for : Mode → Board → Node → Option ℕ
cover_for Refute board node = None
cover_for ListAll board node = position (covers node) board.nodes

-- what the event's kind asks of its open node, where this lemma applies and that found node covers
abbrev pub IsDue : Setting → Board → Node → Option ℕ → Option ℕ → Event → Type 0
IsDue setting board node lemma cover (ByLemma number which) = lemma ≡ Some which
IsDue setting board node lemma cover (CoveredBy number by) = (lemma ≡ None) × (cover ≡ Some by)
IsDue setting board node lemma cover (Extend number inst) =
    (lemma ≡ None) × (cover ≡ None) × IsLeast setting.problem node.lits inst × (inst.conclusions ≢ []) × (weight_of inst ≤ setting.limits.weight) × (count board < setting.limits.budget)
IsDue setting board node lemma cover (Reject number inst) = (lemma ≡ None) × (cover ≡ None) × IsLeast setting.problem node.lits inst × (inst.conclusions ≡ [])
IsDue setting board node lemma cover (Saturated number) = (lemma ≡ None) × (cover ≡ None) × IsSaturated setting.problem node.lits
IsDue setting board node lemma cover (TooHeavy number inst) = (lemma ≡ None) × (cover ≡ None) × IsLeast setting.problem node.lits inst × (setting.limits.weight < weight_of inst)

-- the event may come next on the board
pub record IsLawful (setting : Setting) (board : Board) (event : Event) : Type 0 where
  pub node : Node
  pub is : slice_get board.nodes (node_of event) ≡ Some node
  pub opened : node.state ≡ Open
  pub due : IsDue setting board node (lemma_for board node) (cover_for setting.mode board node) event

-- each event is lawful in its turn
abbrev pub AreLawful : Setting → Board → List Event → Type 0
AreLawful setting board [] = Unit {0}
AreLawful setting board (event ∷ events) = IsLawful setting board event × AreLawful setting (effect setting board event) events

-- the board is what a lawful journal leaves
pub record IsReplay (setting : Setting) (board : Board) : Type 0 where
  pub events : List Event
  pub lawful : AreLawful setting opening events
  pub is : replay_from setting opening events ≡ board
