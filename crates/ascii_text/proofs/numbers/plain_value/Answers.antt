use Rattle.std.proofs.Common.{arith}
use Rattle.ascii_text.proofs.Digits.{not_plain, plain_answer}
use Rattle.ascii_text.proofs.numbers.plain_value.Goals as goal

pub returns-then-not-is_plain_number : goal.returns-then-not-is_plain_number
returns-then-not-is_plain_number c = not_plain c.args.text.now (grind (arith, c.is_plain_number.ensures, c.if-not-is_plain_number.ensures, c.if-not-is_plain_number.true))

pub returns : goal.returns
returns c = plain_answer c.args.text.now (grind (arith, c.is_plain_number.ensures, c.if-not-is_plain_number.ensures, c.if-not-is_plain_number.false)) c.number_up_to.result c.number_up_to.ensures
