use Rattle.std.proofs.Common.{◌≡◌, map, take}
use Rattle.tree_board.specs.Searches.{board_of}
use Rattle.board_tree.specs.Documents.{block_of}
use Rattle.board_tree.specs.Used.{used_from}
use Rattle.board_tree.proofs.blocks.blocks_of.Given as goal

abbrev pub invariant-loop-index : goal.invariant-loop-index
invariant-loop-index l = l.blocks.items ≡ map (block_of (board_of l.board)) (used_from (board_of l.board).nodes 1 (take l.index (board_of l.board).kept))
