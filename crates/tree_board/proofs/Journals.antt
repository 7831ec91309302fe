-- A board's journal is the events that led to it, and a lawful event leads to a board of the same kind.
use Rattle.std.proofs.Common.{◌≡◌, ℕ, List, [], ◌∷◌, ◌++◌, slice_get, Option, Some, None, refl, sym, ap, subst, ◌∙◌, append_assoc}
use Rattle.mg_meaning.specs.Folding.{Pair}
use Rattle.tree_board.specs.declared.event.Event.{Event}
use Rattle.tree_board.specs.Boards.{Board, opening}
use Rattle.tree_board.specs.Closings.{due, closed_by, closed_node, closed_at}
use Rattle.tree_board.specs.Effects.{moved, effect, replay_from}
use Rattle.tree_board.specs.Lawful.{IsLawful, AreLawful, IsReplay}
use Rattle.tree_board.specs.Nodes.{Node}
use Rattle.tree_board.specs.Settings.{Setting}
use Rattle.tree_board.proofs.Replays.{climb_keeps, effect_is}

-- one event more
pub replay_more : (setting : Setting) (events : List Event) (board : Board) (event : Event) → replay_from setting board (events ++ event ∷ []) ≡ effect setting (replay_from setting board events) event
unfolding replay_from
replay_more setting [] board event = refl
replay_more setting (first ∷ events) board event = replay_more setting events (effect setting board first) event

pub lawful_more : (setting : Setting) (events : List Event) (board : Board) (event : Event) → AreLawful setting board events → IsLawful setting (replay_from setting board events) event → AreLawful setting board (events ++ event ∷ [])
unfolding replay_from
lawful_more setting [] board event lawful next = (next, tt)
lawful_more setting (first ∷ events) board event (one, rest) next = (one, lawful_more setting events (effect setting board first) event rest next)

-- the board after a lawful event is a replay as well
pub replay_goes_on : (setting : Setting) (board : Board) (event : Event) → IsReplay setting board → IsLawful setting board event → IsReplay setting (effect setting board event)
replay_goes_on setting board event replay lawful = record {
  events = replay.events ++ event ∷ [];
  lawful = lawful_more setting replay.events opening event replay.lawful (subst (λ one. IsLawful setting one event) (sym replay.is) lawful);
  is = replay_more setting replay.events opening event ∙ ap (λ one. effect setting one event) replay.is;
}

closed_at_journal : (setting : Setting) (number : ℕ) (journal : List Event) (board : Board) → board.journal ≡ journal → (closed_at setting board number).journal ≡ journal
unfolding closed_at
closed_at_journal setting number journal board same = by (slice_get board.nodes number)
  where
    close : (node : Node) (pair : Option Pair) → (closed_by setting board number node pair).journal ≡ journal
    close node None = same
    close node (Some pair) = same

    by : (node : Option Node) → (closed_node setting board number node).journal ≡ journal
    by None = same
    by (Some node) = close node (due board.nodes node)

pub effect_journal : (setting : Setting) (board : Board) (event : Event) → IsLawful setting board event → (effect setting board event).journal ≡ board.journal ++ event ∷ []
effect_journal setting board event lawful =
    ap (λ (one : Board). one.journal) (effect_is setting board event lawful.node lawful.is)
    ∙ climb_keeps setting (λ one. one.journal ≡ board.journal ++ event ∷ []) (λ number one same. closed_at_journal setting number (board.journal ++ event ∷ []) one same) lawful.node.path (moved board lawful.node event) refl

pub events_kept : (setting : Setting) (events : List Event) (board : Board) → AreLawful setting board events → (replay_from setting board events).journal ≡ board.journal ++ events
unfolding replay_from
events_kept setting [] board lawful = sym (none_after board.journal)
  where
    none_after : (xs : List Event) → xs ++ [] ≡ xs
    none_after [] = refl
    none_after (x ∷ xs) = ap (λ rest. x ∷ rest) (none_after xs)
events_kept setting (event ∷ events) board (one, rest) =
    events_kept setting events (effect setting board event) rest
    ∙ (ap (λ journal. journal ++ events) (effect_journal setting board event one) ∙ append_assoc board.journal (event ∷ []) events)

-- the board is the replay of its own journal
pub own_journal : (setting : Setting) (board : Board) → (replay : IsReplay setting board) → (AreLawful setting opening board.journal) × (replay_from setting opening board.journal ≡ board)
own_journal setting board replay =
    let same : board.journal ≡ replay.events = ap (λ (one : Board). one.journal) (sym replay.is) ∙ events_kept setting replay.events opening replay.lawful in
    (subst (AreLawful setting opening) (sym same) replay.lawful, ap (replay_from setting opening) same ∙ replay.is)
