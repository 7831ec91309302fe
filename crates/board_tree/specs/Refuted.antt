-- Searches that ended with the root closed.
use Rattle.std.specs.Prelude.{◌≤◌, IsTrue}
use Rattle.mg_word.specs.Facts.{IsProblem}
use Rattle.tree_board.specs.Boards.{is_closed}
use Rattle.tree_board.specs.Lawful.{IsReplay}
use Rattle.tree_board.specs.Searches.{Search, setting_of, board_of}
use Rattle.tree_board.specs.declared.board.TheConstants.{MOST_BUDGET, MOST_WEIGHT}

-- a search of a problem, with the limits that a board may have, whose root is closed
pub record IsRefuted (search : Search) : Type 0 where
  pub problem : IsProblem search.problem
  pub budget : search.limits.budget ≤ MOST_BUDGET
  pub weight : search.limits.weight ≤ MOST_WEIGHT
  pub replay : IsReplay (setting_of search) (board_of search)
  pub closed : IsTrue (is_closed (board_of search) 0)
