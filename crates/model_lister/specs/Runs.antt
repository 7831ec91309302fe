-- The search for all minimal sets of a problem, by one worker.
use Rattle.std.specs.Prelude.{List, None, Option, Some, ◌≡◌}
use Rattle.mg_word.specs.Facts.{IsProblem, ProblemData}
use Rattle.tree_board.specs.Searches.{Search}
use Rattle.tree_board.specs.declared.event.Event.{Event}
use Rattle.tree_board.specs.declared.mode.BoardState.{BoardState}
use Rattle.tree_board.specs.declared.mode.BoardState.TheVariants.{Blocked, Closed, Complete, Model, Running}
use Rattle.tree_board.specs.declared.mode.Limit.{Limit}
use Rattle.tree_board.specs.declared.mode.Limits.{Limits}
use Rattle.tree_board.specs.declared.mode.Mode.TheVariants.{List as ListAll}
use Rattle.model_lister.specs.Ends.{IsSearched}

-- the search for all minimal sets of the problem, after these events
abbrev pub search_of : ProblemData → Limits → List Event → Search
search_of problem limits journal = record { problem = problem; mode = ListAll; limits = limits; journal = journal }

-- such a search for all minimal sets of the problem, within these limits
pub record IsRun (problem : ProblemData) (limits : Limits) (search : Search) : Type 0 where
  pub real : IsProblem problem
  pub over : search ≡ search_of problem limits search.journal
  pub searched : IsSearched search

-- the limit that blocks the board, if one does
abbrev pub limit_in : BoardState → Option Limit
limit_in (Blocked limit) = Some limit
limit_in Closed = None
limit_in (Model node) = None
limit_in Complete = None
limit_in Running = None
