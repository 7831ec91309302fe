-- What the fields of a board keep.
use Rattle.std.specs.Prelude.{◌≡◌, ◌≤◌, ℕ, List, length}
use Rattle.mg_word.specs.Facts.{IsProblem}
use Rattle.mg_meaning.specs.Folding.{Pair}
use Rattle.case_split.specs.declared.child.Closure.{Closure}
use Rattle.tree_board.specs.declared.board.TheConstants.{MOST_BUDGET, MOST_WEIGHT}
use Rattle.tree_board.specs.declared.cell.Cell.{Cell}
use Rattle.tree_board.specs.declared.tally.Tally.{Tally}
use Rattle.tree_board.specs.Boards.{opening, count}
use Rattle.tree_board.specs.Lawful.{AreLawful}
use Rattle.tree_board.specs.Searches.{Search, setting_of, board_of}
use Rattle.tree_board.specs.Cells.{StandForBoard}
use Rattle.tree_board.specs.Tallies.{IsTally}

-- the journal is lawful, and the rest stands for the board that it leaves
pub record IsKeeping (search : Search) (cells : List Cell) (closures : List Closure) (lemmas : List Pair) (lemma_nodes : List ℕ) (tally : Tally) : Type 0 where
  pub problem : IsProblem search.problem
  pub budget : search.limits.budget ≤ MOST_BUDGET
  pub weight : search.limits.weight ≤ MOST_WEIGHT
  pub lawful : AreLawful (setting_of search) opening search.journal
  pub stand : StandForBoard search.journal (board_of search) cells closures lemmas lemma_nodes
  pub count : tally.extensions ≡ count (board_of search)
  pub tallied : IsTally (board_of search) tally
  pub few : length closures ≤ length cells
