-- How many lemmas a board keeps.
use Rattle.std.proofs.Common.{◌≡◌, ℕ, ◌+◌, ◌≤◌, Bool, true, false, not, ◌&&◌, nat_eq, nat_lt, nat_le, List, [], ◌∷◌, length, slice_get, Option, Some, None, refl, sym, subst, arith}
use Rattle.std.proofs.lemmas.Bool.{ltb-true}
use Rattle.std.proofs.lemmas.List.{length-append}
use Rattle.mg_word.proofs.Members.{both_true}
use Rattle.mg_meaning.specs.Folding.{Pair}
use Rattle.branch_lemmas.specs.declared.index.TheConstants.{MOST_LEMMAS, MOST_LITERALS}
use Rattle.tree_board.specs.Boards.{Board, Kept, opening}
use Rattle.tree_board.specs.Closings.{due, kept_with, closed_by, closed_node, closed_at}
use Rattle.tree_board.specs.Effects.{moved, effect}
use Rattle.tree_board.specs.Lawful.{IsLawful, IsReplay}
use Rattle.tree_board.specs.Nodes.{Node}
use Rattle.tree_board.specs.Searches.{Search, setting_of, board_of}
use Rattle.tree_board.specs.Settings.{small}
use Rattle.tree_board.specs.declared.event.Event.{Event}
use Rattle.tree_board.proofs.Replays.{climb_keeps, effect_is, replay_keeps}

abbrev KeepsFew : Board → Type 0
KeepsFew board = length board.kept ≤ MOST_LEMMAS

few_with : (kept : List Kept) (number : ℕ) (pair : Pair) → length kept ≤ MOST_LEMMAS → (test : Bool) → small (length kept) number pair ≡ test → length (kept_with test kept number pair) ≤ MOST_LEMMAS
few_with kept number pair few false is = few
few_with kept number pair few true is =
    let fits = both_true (not (nat_eq number 0)) (nat_le (length pair.inside + length pair.outside) MOST_LITERALS && nat_lt (length kept) MOST_LEMMAS) is in
    let room = both_true (nat_le (length pair.inside + length pair.outside) MOST_LITERALS) (nat_lt (length kept) MOST_LEMMAS) fits.1 in
    let fewer = ltb-true (length kept) MOST_LEMMAS room.1 in
    let size = length-append kept (record { node = number; pair = pair } ∷ []) in
    omega (arith, fewer, size)

few_closed : (search : Search) (number : ℕ) (board : Board) → KeepsFew board → KeepsFew (closed_at (setting_of search) board number)
unfolding closed_at
few_closed search number board few = by (slice_get board.nodes number)
  where
    by_due : (node : Node) (pair : Option Pair) → KeepsFew (closed_by (setting_of search) board number node pair)
    by_due node None = few
    by_due node (Some pair) = few_with board.kept number pair few (small (length board.kept) number pair) refl

    by : (found : Option Node) → KeepsFew (closed_node (setting_of search) board number found)
    by None = few
    by (Some node) = by_due node (due board.nodes node)

few_after : (search : Search) (board : Board) (event : Event) → KeepsFew board → IsLawful (setting_of search) board event → KeepsFew (effect (setting_of search) board event)
few_after search board event few lawful =
    subst KeepsFew (sym (effect_is (setting_of search) board event lawful.node lawful.is))
    (climb_keeps (setting_of search) KeepsFew (λ number one holds. few_closed search number one holds) lawful.node.path (moved board lawful.node event) few)

-- a search keeps few lemmas
pub few_kept : (search : Search) → IsReplay (setting_of search) (board_of search) → length (board_of search).kept ≤ MOST_LEMMAS
few_kept search replay =
    subst KeepsFew replay.is (replay_keeps (setting_of search) KeepsFew (λ board event few lawful. few_after search board event few lawful) replay.events opening (let none : 0 ≤ MOST_LEMMAS = omega arith in none) replay.lawful)
