use Rattle.std.proofs.Common.{sym, ◌∙◌}
use Rattle.board_tree.proofs.Written.{kept_node}
use Rattle.board_tree.proofs.blocks.block_of.Goals as goal

pub lines_of-requires-clause-there : goal.lines_of-requires-clause-there
lines_of-requires-clause-there c = kept_node c.args.board.now c.requires.refuted c.args.number c.in-Some-lemma_node.node (sym c.in-Some-lemma_node.is ∙ c.lemma_node.ensures)
