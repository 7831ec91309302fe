use Rattle.std.proofs.Common.{subst}
use Rattle.ascii_text.specs.Numbers.{IsValue}
use Rattle.command_words.proofs.Asked.{too_small, too_great}
use Rattle.command_words.proofs.values.number_in.Goals as goal
use Rattle.command_words.proofs.values.number_in.Goals.{then-number-least-via-then-number-least, then-number-least-via-else-number-least+then-most-number}

pub returns-then-number-least : goal.returns-then-number-least
returns-then-number-least c =
    let text = c.args.text.now in
    let found = c.in_ok-number.number in
    let value : IsValue text found = subst (λ t. IsValue t found) c.as_bytes.ensures.value c.in_ok-number.ensures in
    elim c.then-number-least.branch [
      | then-number-least-via-then-number-least w ↦ too_small text c.args.least c.args.most found value w.if-number-least.true
      | then-number-least-via-else-number-least+then-most-number w ↦ too_great text c.args.least c.args.most found value w.if-most-number.true
    ]
