-- The journal of one worker.
use Rattle.std.specs.Prelude.{ℕ, List, [], ◌∷◌, ◌≡◌, ◌≤◌}
use Rattle.mg_word.specs.Facts.{IsProblem}
use Rattle.mg_meaning.specs.PlainTree.{Plain}
use Rattle.tree_board.specs.Boards.{Board, opening}
use Rattle.tree_board.specs.Effects.{effect}
use Rattle.tree_board.specs.Events.{node_of}
use Rattle.tree_board.specs.Lawful.{IsLawful}
use Rattle.tree_board.specs.Settings.{Setting}
use Rattle.tree_board.specs.Standing.{state_of}
use Rattle.tree_board.specs.TreeOrder.{IsFirstOpen}
use Rattle.tree_board.specs.declared.event.Event.{Event}
use Rattle.tree_board.specs.declared.mode.BoardState.{BoardState}
use Rattle.tree_board.specs.declared.mode.BoardState.TheVariants.{Blocked, Closed, Complete, Model, Running}
use Rattle.tree_board.specs.declared.mode.Mode.TheVariants.{Refute}

-- the state at which one worker stops
abbrev pub IsEnd : BoardState → Type 0
IsEnd Closed = Unit {0}
IsEnd (Model node) = Unit {0}
IsEnd Complete = ⊥
IsEnd Running = ⊥
IsEnd (Blocked limit) = ⊥

-- each event is lawful and stands at the first open node, and the last is the first that ends the search
abbrev pub IsOneWorker : Setting → Board → List Event → Type 0
IsOneWorker setting board [] = IsEnd (state_of setting board)
IsOneWorker setting board (event ∷ events) =
    (IsEnd (state_of setting board) → ⊥) × IsLawful setting board event × IsFirstOpen board (node_of event) × IsOneWorker setting (effect setting board event) events

-- one worker has one journal
abbrev pub OneWorkerIsUnique : Type 0
OneWorkerIsUnique = (setting : Setting) → IsProblem setting.problem → (these those : List Event) → IsOneWorker setting opening these → IsOneWorker setting opening those → these ≡ those

-- where the plain tree fits the limits, one worker in mode Refute has a journal
abbrev pub OneWorkerExists : Type 0
OneWorkerExists = (setting : Setting) → IsProblem setting.problem → setting.mode ≡ Refute → (extends : ℕ) → extends ≤ setting.limits.budget → Plain setting.problem setting.limits.weight [] [] extends → (events : List Event) × IsOneWorker setting opening events
