-- What a board is to its callers: a search by its journal.
use Rattle.std.specs.Prelude.{List}
use Rattle.mg_word.specs.Facts.{ProblemData}
use Rattle.tree_board.specs.declared.event.Event.{Event}
use Rattle.tree_board.specs.declared.mode.Limits.{Limits}
use Rattle.tree_board.specs.declared.mode.Mode.{Mode}
use Rattle.tree_board.specs.Settings.{Setting, small}
use Rattle.tree_board.specs.Boards.{Board, opening}
use Rattle.tree_board.specs.Effects.{replay_from}

-- what is searched, how far, and all events so far
pub record Search : Type 0 where
  pub problem : ProblemData
  pub mode : Mode
  pub limits : Limits
  pub journal : List Event

-- small lemmas are kept
abbrev pub setting_of : Search → Setting
setting_of search = record { problem = search.problem; mode = search.mode; limits = search.limits; keeps = small }

-- the board that the journal leaves
abbrev pub board_of : Search → Board
board_of search = replay_from (setting_of search) opening search.journal
