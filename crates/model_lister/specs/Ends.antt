-- One worker's search at its end, whatever its mode.
use Rattle.tree_board.specs.Alone.{IsAlone}
use Rattle.tree_board.specs.Boards.{opening}
use Rattle.tree_board.specs.Searches.{Search, board_of, setting_of}
use Rattle.tree_board.specs.Standing.{state_of}
use Rattle.tree_board.specs.declared.mode.BoardState.{BoardState}

-- how the board that its journal leaves stands
abbrev pub end_of : Search → BoardState
end_of search = state_of (setting_of search) (board_of search)

-- one worker has gone on with the search from its opening to the end
abbrev pub IsSearched : Search → Type 0
IsSearched search = IsAlone (setting_of search) opening search.journal
