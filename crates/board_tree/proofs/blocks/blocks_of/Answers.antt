use Rattle.std.proofs.Common.{◌<◌, length, sym, ap, ◌∙◌, arith}
use Rattle.tree_board.specs.Searches.{board_of}
use Rattle.board_tree.specs.Documents.{block_of}
use Rattle.board_tree.proofs.Keeping.{few_kept}
use Rattle.board_tree.proofs.Listed.{lemma_there, block_more, block_none, blocks_all}
use Rattle.board_tree.proofs.Tabled.{names_long}
use Rattle.board_tree.proofs.blocks.blocks_of.Goals.{then-is_some+in_ok-block_of+in_ok-push, else-is_some}
use Rattle.board_tree.proofs.blocks.blocks_of.Goals as goal

pub overflow_cast-index : goal.overflow_cast-index
overflow_cast-index c =
    let few = few_kept c.args.board.now c.requires.refuted.replay in
    let size = ap length c.requires.names ∙ names_long (board_of c.args.board.now) in
    omega (arith, few, size, c.loop-index-test.true)

pub overflow_add-index : goal.overflow_add-index
overflow_add-index c =
    let few = few_kept c.args.board.now c.requires.refuted.replay in
    let size = ap length c.requires.names ∙ names_long (board_of c.args.board.now) in
    omega (arith, few, size, c.loop-index-test.true)

pub block_of-requires-clause-there : goal.block_of-requires-clause-there
block_of-requires-clause-there c =
    let size = ap length c.requires.names ∙ names_long (board_of c.args.board.now) in
    lemma_there (board_of c.args.board.now).kept c.loop-index.index (omega (arith, size, c.loop-index-test.true))

pub loop-index-preserved : goal.loop-index-preserved
loop-index-preserved c =
    let size = ap length c.requires.names ∙ names_long (board_of c.args.board.now) in
    let within : c.loop-index.index < length (board_of c.args.board.now).kept = omega (arith, size, c.loop-index-test.true) in
    elim c.if-is_some.branch [
      | then-is_some+in_ok-block_of+in_ok-push w ↦
          block_more (board_of c.args.board.now) (block_of (board_of c.args.board.now)) c.args.names.now c.requires.names c.loop-index.index within
          c.loop-index.blocks.items c.if-is_some.blocks.items w.in_ok-block_of.field-0 (sym c.is_some.ensures ∙ w.if-is_some.true) w.in_ok-block_of.ensures c.loop-index.invariant
          (ap (λ blocks. blocks.items) w.blocks-is ∙ w.in_ok-push.ensures.items)
      | else-is_some w ↦
          block_none (board_of c.args.board.now) (block_of (board_of c.args.board.now)) c.args.names.now c.requires.names c.loop-index.index within
          c.loop-index.blocks.items c.if-is_some.blocks.items (sym c.is_some.ensures ∙ w.if-is_some.false) c.loop-index.invariant (ap (λ blocks. blocks.items) w.blocks-is)
    ]

pub returns : goal.returns
returns c =
    let size = ap length c.requires.names ∙ names_long (board_of c.args.board.now) in
    c.new.ensures ∙ blocks_all (board_of c.args.board.now) (block_of (board_of c.args.board.now)) c.loop-index.blocks.items c.loop-index.index (omega (arith, size, c.loop-index-test.false)) c.loop-index.invariant
