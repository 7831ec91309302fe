use Rattle.std.proofs.Common.{length, ap, ◌∙◌, arith}
use Rattle.tree_board.specs.Searches.{board_of}
use Rattle.board_tree.proofs.Keeping.{few_kept}
use Rattle.board_tree.proofs.Tabled.{marks_size}
use Rattle.board_tree.proofs.names.names_of.Goals as goal

pub number_marks-requires : goal.number_marks-requires
number_marks-requires c =
    let few = few_kept c.args.board.now c.requires.replay in
    let size = ap length (c.as_slice.ensures.value ∙ c.in_ok-marks.ensures) ∙ marks_size (board_of c.args.board.now).nodes 1 (board_of c.args.board.now).kept in
    omega (arith, few, size)
