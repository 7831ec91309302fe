use Rattle.std.proofs.Common.{◌+◌, ◌++◌, reverse, sym, ap, ◌∙◌, arith}
use Rattle.std.specs.List.{range_with_len}
use Rattle.std.specs.Option.{option_copied}
use Rattle.tree_board.specs.Searches.{setting_of, board_of}
use Rattle.tree_board.proofs.Budgets.{few_nodes}
use Rattle.board_tree.proofs.Written.{split_at_number, on_ok}
use Rattle.board_tree.proofs.lines.push_kids.Goals as goal

pub overflow_cast-len : goal.overflow_cast-len
overflow_cast-len c =
    let at = split_at_number c.args.board.now c.requires.refuted c.args.node c.in-Some.first c.in-Some-instance.inst.now (sym c.in-Some.is ∙ c.first_child.ensures) (sym (ap option_copied c.in-Some-instance.is) ∙ c.instance.ensures) in
    let few = few_nodes (setting_of c.args.board.now) (board_of c.args.board.now) c.requires.refuted.problem c.requires.refuted.replay c.requires.refuted.budget in
    omega (arith, at.few, few, c.len.ensures)

pub push_down-requires : goal.push_down-requires
push_down-requires c k small =
    let at = split_at_number c.args.board.now c.requires.refuted c.args.node c.in-Some.first c.in-Some-instance.inst.now (sym c.in-Some.is ∙ c.first_child.ensures) (sym (ap option_copied c.in-Some-instance.is) ∙ c.instance.ensures) in
    let few = few_nodes (setting_of c.args.board.now) (board_of c.args.board.now) c.requires.refuted.problem c.requires.refuted.replay c.requires.refuted.budget in
    let kid = at.within (c.in-Some.first + k) (omega arith) (omega (arith, small, c.len.ensures)) in
    omega (arith, kid, few)

pub returns : goal.returns
returns c =
    let at = split_at_number c.args.board.now c.requires.refuted c.args.node c.in-Some.first c.in-Some-instance.inst.now (sym c.in-Some.is ∙ c.first_child.ensures) (sym (ap option_copied c.in-Some-instance.is) ∙ c.instance.ensures) in
    on_ok (λ pushed. pushed ∙ ap (λ kids. c.args.waiting.now.items ++ reverse kids) (ap (range_with_len c.in-Some.first) c.len.ensures ∙ sym at.kids)) c.push_down.result c.push_down.ensures
