-- The facts hold of every board that a lawful journal leaves.
use Rattle.std.proofs.Common.{◌≡◌, ℕ, zero, suc, Bool, true, false, List, [], ◌∷◌, slice_get, Some, None, if◌then◌else◌, refl, sym, ap, subst, inl}
use Rattle.mg_word.specs.Words.{numbered}
use Rattle.mg_word.specs.Facts.{IsProblem}
use Rattle.tree_board.specs.declared.event.Event.{Event}
use Rattle.tree_board.specs.Boards.{Kept, Board, opening, is_closed}
use Rattle.tree_board.specs.Closings.{closed_at, climb}
use Rattle.tree_board.specs.Effects.{moved, effect_at, effect, replay_from}
use Rattle.tree_board.specs.Events.{node_of}
use Rattle.tree_board.specs.Facts.{IsAmong, IsSound, IsBoard}
use Rattle.tree_board.specs.Lawful.{IsLawful, AreLawful, IsReplay}
use Rattle.tree_board.specs.NodeStates.{Open}
use Rattle.tree_board.specs.Nodes.{Node}
use Rattle.tree_board.specs.Settings.{Setting}
use Rattle.tree_board.proofs.Places.{same_some}
use Rattle.tree_board.proofs.Settling.{none_some}
use Rattle.tree_board.proofs.Moving.{moved_board}
use Rattle.tree_board.proofs.Closing.{closed_at_board}

-- what closing one node keeps, the climb keeps
pub climb_keeps : (setting : Setting) (P : Board → Type 0) → ((number : ℕ) (board : Board) → P board → P (closed_at setting board number)) → (path : List ℕ) (board : Board) → P board → P (climb setting path board)
unfolding climb
climb_keeps setting P step [] board holds = holds
climb_keeps setting P step (number ∷ above) board holds = by (is_closed (closed_at setting board number) number) (climb_keeps setting P step above (closed_at setting board number) (step number board holds))
  where
    by : (closed : Bool) → P (climb setting above (closed_at setting board number)) → P (if closed then climb setting above (closed_at setting board number) else closed_at setting board number)
    by true further = further
    by false further = step number board holds

-- an event is its move, and then the climb
pub effect_is : (setting : Setting) (board : Board) (event : Event) (node : Node) → slice_get board.nodes (node_of event) ≡ Some node → effect setting board event ≡ climb setting node.path (moved board node event)
unfolding effect
effect_is setting board event node at = ap (effect_at setting board event) at

pub effect_board : (setting : Setting) (board : Board) → IsProblem setting.problem → IsBoard setting board → (event : Event) → IsLawful setting board event → IsBoard setting (effect setting board event)
effect_board setting board real facts event lawful =
    let moves = moved_board setting board real facts lawful.node event lawful.is lawful.opened lawful.due in
    subst (IsBoard setting) (sym (effect_is setting board event lawful.node lawful.is))
    (climb_keeps setting (IsBoard setting) (λ number one holds. closed_at_board setting one number holds) lawful.node.path (moved board lawful.node event) moves)

root_only : (number : ℕ) (node : Node) → slice_get opening.nodes number ≡ Some node → (number ≡ 0) × (node ≡ record { path = 0 ∷ []; lits = []; barred = []; state = Open; own = None })
root_only zero node e = (refl, sym (same_some (record { path = 0 ∷ []; lits = []; barred = []; state = Open; own = None }) node e))
root_only (suc number) node e = absurd (let bad : ⊥ = cc in bad)

pub opening_board : (setting : Setting) → IsBoard setting opening
opening_board setting = record {
  root = (record { path = 0 ∷ []; lits = []; barred = []; state = Open; own = None }, refl, refl, refl, refl);
  used = λ inst there. absurd there;
  each = λ number node is.
      let (first, same) = root_only number node is in
      subst (λ place. IsSound setting opening place node) (sym first) (subst (IsSound setting opening 0) (sym same) (record {
        above = [];
        path = refl;
        rooted = refl;
        fitting = refl;
        clean = λ e. record { different = refl; consistent = refl; unbarred = refl };
        state = refl;
        lemma = λ pair e. absurd (none_some pair e);
      }));
  apart = λ a b x y is_a is_b shut_a shut_b not_a not_b. absurd (not_a (subst (λ (node : Node). IsAmong node.path a) (sym (root_only b y is_b).1) (inl (sym (root_only a x is_a).0))));
  kept = λ lemma kept is. absurd (no_lemma lemma kept is);
}
  where
    no_lemma : (lemma : ℕ) (kept : Kept) → numbered [] lemma ≡ Some kept → ⊥
    no_lemma zero kept e = cc
    no_lemma (suc lemma) kept e = cc

-- what holds of the board and of lawful effects holds after lawful events
pub replay_keeps : (setting : Setting) (P : Board → Type 0) → ((board : Board) (event : Event) → P board → IsLawful setting board event → P (effect setting board event)) → (events : List Event) (board : Board) → P board → AreLawful setting board events → P (replay_from setting board events)
unfolding replay_from
replay_keeps setting P step [] board holds lawful = holds
replay_keeps setting P step (event ∷ events) board holds (first, rest) = replay_keeps setting P step events (effect setting board event) (step board event holds first) rest

pub replay_board : (setting : Setting) (board : Board) → IsProblem setting.problem → IsReplay setting board → IsBoard setting board
replay_board setting board real replay =
    subst (IsBoard setting) replay.is (replay_keeps setting (IsBoard setting) (λ one event holds lawful. effect_board setting one real holds event lawful) replay.events opening (opening_board setting) replay.lawful)
