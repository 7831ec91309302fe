-- The laws of the document of a closed board.
use Rattle.tree_checker.specs.Docs.{IsWellFormed, Accepts}
use Rattle.tree_board.specs.Searches.{Search, board_of}
use Rattle.board_tree.specs.Documents.{doc_of}
use Rattle.board_tree.specs.Refuted.{IsRefuted}

-- the document of a closed board is accepted
abbrev pub ClosedIsAccepted : Type 0
ClosedIsAccepted = (search : Search) → IsRefuted search → Accepts search.problem (doc_of (board_of search))

-- it is a document of the problem
abbrev pub ClosedIsWellFormed : Type 0
ClosedIsWellFormed = (search : Search) → IsRefuted search → IsWellFormed search.problem (doc_of (board_of search))
