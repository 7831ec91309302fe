-- A number past the most stays past it.
use Rattle.std.proofs.Common.{◌+◌, ◌*◌, ◌<◌, length, get_or, arith}
use Rattle.std.specs.Char.{digit_value}
use Rattle.ascii_text.proofs.Digits.{past}
use Rattle.ascii_text.proofs.numbers.number_up_to.Goals as goal

pub returns-then-number-from : goal.returns-then-number-from
returns-then-number-from c =
    let i = c.loop-byte.byte-index in
    let within : i < length c.args.digits.now = omega arith in
    let more : c.args.most < c.loop-byte.number * 10 + digit_value (get_or c.args.digits.now i 0) = omega (arith, c.digit.ensures) in
    past c.args.digits.now i c.loop-byte.number c.args.most within c.loop-byte.invariant.read more
