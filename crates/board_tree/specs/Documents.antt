-- The document of a closed board.
use Rattle.std.specs.Prelude.{map}
use Rattle.tree_board.specs.Boards.{Board, Kept}
use Rattle.tree_checker.specs.declared.doc.Doc.{Doc}
use Rattle.tree_checker.specs.declared.doc.LemmaBlock.{LemmaBlock}
use Rattle.board_tree.specs.Lines.{lines_of}
use Rattle.board_tree.specs.Used.{used_from}

-- a lemma's sets, and the tree of its node
abbrev pub block_of : Board → Kept → LemmaBlock
block_of board one = record { inside = one.pair.inside; outside = one.pair.outside; tree = lines_of board one.node }

-- a block for each used lemma, in their order, and the root's tree
abbrev pub doc_of : Board → Doc
doc_of board = record { lemmas = map (block_of board) (used_from board.nodes 1 board.kept); root = lines_of board 0 }
