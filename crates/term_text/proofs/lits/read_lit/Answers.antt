use Rattle.std.proofs.Common.{◌≡◌, length, drop, refl, ap, length-drop, arith}
use Rattle.term_text.specs.Lits.{RawLit}
use Rattle.term_text.proofs.LitItems.{no_lit, no_whole_lit, whole_lit}
use Rattle.term_text.proofs.lits.read_lit.Goals as goal

pub find_term-requires : goal.find_term-requires
find_term-requires c =
    let taken = rw c.in-Some.is at c.in_ok-taken.ensures in
    (taken.1.term, taken.1.raws_are)

pub returns-in_default : goal.returns-in_default
returns-in_default c =
    let sign = c.take_sign-negative.ensures in
    no_lit _ _ c.args.bytes.now sign.text sign.positive (rw c.in_default.is at c.in_ok-taken.ensures)

pub returns-then-end-atom : goal.returns-then-end-atom
returns-then-end-atom c =
    let sign = c.take_sign-negative.ensures in
    let taken = rw c.in-Some.is at c.in_ok-taken.ensures in
    no_whole_lit _ _ c.args.bytes.now sign.text sign.positive taken.1.term _ taken.1.is
    (λ none. omega (arith, c.if-end-atom.true, taken.0, ap length none, length-drop c.in-Some.end c.take_sign-negative.result.1.now))

pub returns : goal.returns
returns c =
    let sign = c.take_sign-negative.ensures in
    let taken = rw c.in-Some.is at c.in_ok-taken.ensures in
    let short : length (drop c.in-Some.end c.take_sign-negative.result.1.now) ≡ 0 = omega (arith, c.if-end-atom.false, taken.0, length-drop c.in-Some.end c.take_sign-negative.result.1.now) in
    let raw : RawLit = record { negative = c.take_sign-negative.result.0; atom = taken.1.term } in
    record {
      raw = raw;
      own = taken.1.is.is.own;
      text = whole_lit _ _ c.args.bytes.now sign.text sign.positive taken.1.term _ taken.1.is short;
      is = c.signed.ensures c.args.symbols.now raw refl (c.in_ok-found.ensures taken.1.term taken.1.raws_are);
    }
