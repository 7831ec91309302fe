use Rattle.mg_word.specs.Facts.{is_digit}
use Rattle.term_text.proofs.Texts.{cut_len, cut_short}
use Rattle.term_text.proofs.Decimals.{number_taken, number_missing}
use Rattle.term_text.proofs.numbers.take_number.Goals as goal

pub front-requires : goal.front-requires
front-requires c = cut_short is_digit c.args.bytes.now c.digits_len-count.result c.digits_len-count.ensures

pub returns-in_err-number : goal.returns-in_err-number
returns-in_err-number c =
    let cut = cut_len is_digit c.args.bytes.now c.digits_len-count.result c.digits_len-count.ensures in
    rw c.from_residual.ensures (number_missing c.args.bytes.now _ _ cut (λ n. rw c.front.ensures at (c.in_err-number.ensures n)))

pub returns : goal.returns
returns c =
    let cut = cut_len is_digit c.args.bytes.now c.digits_len-count.result c.digits_len-count.ensures in
    rw c.skip.ensures (number_taken c.args.bytes.now _ _ c.in_ok-number.number cut (rw c.front.ensures at c.in_ok-number.ensures))
