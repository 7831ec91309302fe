use Rattle.tree_board.specs.Searches.{board_of}
use Rattle.tree_board.proofs.LeafSets.{leaves_are}
use Rattle.tree_board.proofs.board.Board.leaves.Goals as goal

pub returns : goal.returns
returns c = leaves_are (board_of c.args.self.now) _ _ c.in_ok-sets.ensures.are c.in_ok-sets.ensures.differ c.sort_sets.ensures.permutation c.sort_sets.ensures.sorted
