use Rattle.std.proofs.Common.{◌≡◌, ◌-◌, length}
use Rattle.tree_board.specs.Paths.{LeadsTo}
use Rattle.tree_board.specs.Searches.{board_of}
use Rattle.tree_board.proofs.board.Board.read_lemmas.Given as goal

abbrev pub invariant-lemmas : goal.invariant-lemmas
invariant-lemmas l = record { leads : LeadsTo l.self l.path; node : l.path.node ≡ l.fn.path.node }

abbrev pub decreases-lemmas : goal.decreases-lemmas
decreases-lemmas l = length (board_of l.self).kept - l.path.lemmas_read
