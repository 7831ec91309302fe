use Rattle.std.proofs.Common.{◌<◌, length, sym, ap, ap₂, ◌∙◌, arith}
use Rattle.tree_board.specs.Searches.{board_of}
use Rattle.board_tree.specs.Tables.{with_mark}
use Rattle.board_tree.proofs.Tabled.{marks_none, marks_step, mark_size, written_back}
use Rattle.board_tree.proofs.names.marks_of.Goals as goal

pub loop-node-init : goal.loop-node-init
loop-node-init c = c.in_ok-marks.ensures.items_if_clones_equal (λ mark same. same) ∙ marks_none 1 (board_of c.args.board.now).kept c.kept_count-count.result c.kept_count-count.ensures

pub loop-node-preserved : goal.loop-node-preserved
loop-node-preserved c =
    let old = c.loop-node.marks.items in
    let new = c.mark.new.marks in
    let within : c.loop-node.node < length (board_of c.args.board.now).nodes = omega (arith, c.loop-node-test.true, c.nodes-node-end.ensures) in
    let size = ap length c.mark.ensures ∙ mark_size c.as_mut_slice.result.now c.settled_by.result ∙ ap length c.as_mut_slice.ensures.value in
    written_back c.loop-node.marks.len new old size (omega (arith, c.as_mut_slice.ensures.len, ap length c.as_mut_slice.ensures.value))
    ∙ c.mark.ensures
    ∙ ap₂ with_mark (c.as_mut_slice.ensures.value ∙ c.loop-node.invariant) c.settled_by.ensures
    ∙ sym (marks_step (board_of c.args.board.now).nodes (board_of c.args.board.now).kept c.loop-node.node within)
