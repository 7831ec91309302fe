-- The search of one worker, from whatever board it begins.
use Rattle.std.specs.Prelude.{ℕ, List, [], ◌++◌, ◌<◌, ◌∷◌, ◌≡◌, ◌≢◌, ◌≤◌, ◌⊎◌}
use Rattle.mg_meaning.specs.PlainTree.{Plain}
use Rattle.tree_board.specs.Boards.{Board, count}
use Rattle.tree_board.specs.Effects.{effect}
use Rattle.tree_board.specs.Events.{node_of}
use Rattle.tree_board.specs.Lawful.{IsLawful}
use Rattle.tree_board.specs.Searches.{Search, board_of, setting_of}
use Rattle.tree_board.specs.Settings.{Setting}
use Rattle.tree_board.specs.Standing.{state_of}
use Rattle.tree_board.specs.Stuck.{IsStuck}
use Rattle.tree_board.specs.TreeOrder.{IsFirstOpen}
use Rattle.tree_board.specs.WorkerLaws.{IsEnd}
use Rattle.tree_board.specs.declared.event.Event.{Event}
use Rattle.tree_board.specs.declared.mode.BoardState.TheVariants.{Running}

-- the plain tree has no more extensions than the budget
pub record FitsPlain (setting : Setting) : Type 0 where
  pub extends : ℕ
  pub few : extends ≤ setting.limits.budget
  pub plain : Plain setting.problem setting.limits.weight [] [] extends

-- the budget is not spent, or will do for the whole tree
abbrev pub MayGoOn : Setting → Board → Type 0
MayGoOn setting board = (count board < setting.limits.budget) ⊎ FitsPlain setting

-- each open node waits for an extension, and the budget is spent if there is one
pub record IsLeft (setting : Setting) (board : Board) : Type 0 where
  pub stuck : IsStuck setting board
  pub still : state_of setting board ≢ Running

-- each event comes before the end, is lawful, and stands at the first open node as long as the search may go on;
-- behind the last one the search has ended, or can go no further
abbrev pub IsAlone : Setting → Board → List Event → Type 0
IsAlone setting board [] = IsEnd (state_of setting board) ⊎ IsLeft setting board
IsAlone setting board (event ∷ events) =
    (IsEnd (state_of setting board) → ⊥) × IsLawful setting board event × (MayGoOn setting board → IsFirstOpen board (node_of event)) × IsAlone setting (effect setting board event) events

-- the same search, gone on by one worker to its end
pub record Finishes (before after : Search) : Type 0 where
  pub events : List Event
  pub is : after ≡ record before { journal = before.journal ++ events }
  pub alone : IsAlone (setting_of before) (board_of before) events
