use Rattle.std.proofs.Common.{◌≡◌, ◌++◌, false, sym, ap, ◌∙◌, take, drop}
use Rattle.term_text.proofs.Texts.{cut_len, cut_short}
use Rattle.term_text.proofs.NameShapes.{integer_taken, integer_not_plain, integer_goes_on}
use Rattle.term_text.specs.Names.{ends_name}
use Rattle.mg_word.specs.Facts.{is_digit, is_plain_number}
use Rattle.term_text.proofs.names.take_integer.Goals as goal

pub front-digits-requires : goal.front-digits-requires
front-digits-requires c = cut_short is_digit c.args.bytes.now c.digits_len-count.result c.digits_len-count.ensures

pub returns-then-not-is_plain_number : goal.returns-then-not-is_plain_number
returns-then-not-is_plain_number c =
    let cut = cut_len is_digit c.args.bytes.now c.digits_len-count.result c.digits_len-count.ensures in
    let other : is_plain_number (take c.digits_len-count.result c.args.bytes.now) ≡ false = ap is_plain_number (sym c.front-digits.ensures) ∙ sym c.if-not-is_plain_number.ensures in
    integer_not_plain c.args.bytes.now _ _ c.requires cut other

pub returns-then-not-ends_name : goal.returns-then-not-ends_name
returns-then-not-ends_name c =
    let cut = cut_len is_digit c.args.bytes.now c.digits_len-count.result c.digits_len-count.ensures in
    let other : ends_name (drop c.digits_len-count.result c.args.bytes.now) ≡ false = ap ends_name (sym c.skip-rest.ensures) ∙ sym c.if-not-ends_name.ensures in
    integer_goes_on c.args.bytes.now _ _ c.requires cut other

pub returns : goal.returns
returns c =
    let cut = cut_len is_digit c.args.bytes.now c.digits_len-count.result c.digits_len-count.ensures in
    let name : c.extend_from_slice.new.self.items ≡ take c.digits_len-count.result c.args.bytes.now =
    c.in_ok-extend_from_slice.ensures.items ∙ (ap (λ l. l ++ c.front-digits.result.now) c.clear.ensures.items ∙ c.front-digits.ensures) in
    rw (name, c.skip-rest.ensures)
    (integer_taken c.args.bytes.now _ _ c.requires cut (ap is_plain_number (sym c.front-digits.ensures) ∙ sym c.if-not-is_plain_number.ensures) (ap ends_name (sym c.skip-rest.ensures) ∙ sym c.if-not-ends_name.ensures))
