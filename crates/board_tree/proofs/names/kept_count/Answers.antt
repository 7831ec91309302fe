use Rattle.std.proofs.Common.{◌+◌, ◌-◌, ◌<◌, ◌≤◌, sym, ◌∙◌, length, arith}
use Rattle.tree_board.specs.Searches.{board_of}
use Rattle.board_tree.proofs.Keeping.{few_kept}
use Rattle.board_tree.proofs.Tabled.{kept_there, kept_past}
use Rattle.board_tree.proofs.names.kept_count.Goals as goal

pub overflow_add-count : goal.overflow_add-count
overflow_add-count c =
    let few = few_kept c.args.board.now c.requires.replay in
    let here : c.lemmas.count ≤ length (board_of c.args.board.now).kept = c.lemmas.invariant in
    omega (arith, few, here)

pub overflow_add-count-in-lemmas : goal.overflow_add-count-in-lemmas
overflow_add-count-in-lemmas c =
    let few = few_kept c.args.board.now c.requires.replay in
    let here : c.lemmas.count ≤ length (board_of c.args.board.now).kept = c.lemmas.invariant in
    omega (arith, few, here)

pub lemmas-smaller : goal.lemmas-smaller
lemmas-smaller c =
    let more = kept_there (board_of c.args.board.now).kept c.lemmas.count c.lemma_node.result c.lemma_node.ensures (sym c.is_some.ensures ∙ c.lemmas-test.true) in
    let less : length (board_of c.args.board.now).kept - (c.lemmas.count + 1) < length (board_of c.args.board.now).kept - c.lemmas.count = omega (arith, more) in
    less

pub lemmas-preserved : goal.lemmas-preserved
lemmas-preserved c =
    let more = kept_there (board_of c.args.board.now).kept c.lemmas.count c.lemma_node.result c.lemma_node.ensures (sym c.is_some.ensures ∙ c.lemmas-test.true) in
    let next : c.lemmas.count + 1 ≤ length (board_of c.args.board.now).kept = omega (arith, more) in
    next

pub returns : goal.returns
returns c =
    let past = kept_past (board_of c.args.board.now).kept c.lemmas.count c.lemma_node.result c.lemma_node.ensures (sym c.is_some.ensures ∙ c.lemmas-test.false) in
    let here : c.lemmas.count ≤ length (board_of c.args.board.now).kept = c.lemmas.invariant in
    omega (arith, past, here)
