use Rattle.std.proofs.Common.{◌-◌, ◌≤◌, ◌∙◌, arith}
use Rattle.board_tree.proofs.Written.{down_more, down_begins, down_ends}
use Rattle.board_tree.proofs.lines.push_down.Goals as goal

pub numbers-init : goal.numbers-init
numbers-init c = (omega arith, down_begins c.args.waiting.now.items c.args.first c.args.count)

pub numbers-preserved : goal.numbers-preserved
numbers-preserved c =
    let within : c.numbers.left ≤ c.args.count = c.numbers.invariant.0 in
    let some = c.numbers-test.true in (
      omega (arith, within),
      c.in_ok-push.ensures.items
          ∙ down_more c.args.waiting.now.items c.numbers.waiting.items c.args.first c.numbers.left (c.numbers.left - 1) c.args.count (omega (arith, some)) within c.numbers.invariant.1,
    )

pub returns : goal.returns
returns c = down_ends c.args.waiting.now.items c.numbers.waiting.items c.args.first c.args.count c.numbers.left c.numbers-test.false c.numbers.invariant.1
