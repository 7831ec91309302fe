-- What the search of one worker comes to in mode Refute.
use Rattle.std.specs.Prelude.{List, [], ◌≡◌, ◌⊎◌}
use Rattle.mg_word.specs.Facts.{IsProblem}
use Rattle.tree_board.specs.declared.event.Event.{Event}
use Rattle.tree_board.specs.declared.mode.BoardState.TheVariants.{Blocked}
use Rattle.tree_board.specs.declared.mode.Limit.{Limit}
use Rattle.tree_board.specs.declared.mode.Mode.TheVariants.{Refute}
use Rattle.tree_board.specs.Alone.{FitsPlain, IsAlone, IsLeft}
use Rattle.tree_board.specs.Boards.{Board, opening}
use Rattle.tree_board.specs.Lawful.{IsReplay}
use Rattle.tree_board.specs.Settings.{Setting}
use Rattle.tree_board.specs.Standing.{state_of}
use Rattle.tree_board.specs.Stuck.{GivesUp}
use Rattle.tree_board.specs.WorkerLaws.{IsEnd, IsOneWorker}

-- where the plain tree fits the budget, the journal is the one of one worker
abbrev pub OneWorkerIsAlone : Type 0
OneWorkerIsAlone = (setting : Setting) → IsProblem setting.problem → setting.mode ≡ Refute → FitsPlain setting → (events : List Event) → IsAlone setting opening events → IsOneWorker setting opening events

-- a limit blocks the board, and the search gives up with no found set
pub record IsGivenUp (setting : Setting) (board : Board) : Type 0 where
  pub limit : Limit
  pub blocked : state_of setting board ≡ Blocked limit
  pub gives_up : GivesUp setting limit []

-- a board at which one worker leaves off has ended, or is given up
abbrev pub LeftBoardGivesUp : Type 0
LeftBoardGivesUp = (setting : Setting) (board : Board) → IsProblem setting.problem → IsReplay setting board → setting.mode ≡ Refute → IsLeft setting board → IsEnd (state_of setting board) ⊎ IsGivenUp setting board
