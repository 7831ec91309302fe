use Rattle.std.proofs.Common.{◌≡◌, ◌<◌, ◌≤◌, length, ◌∙◌, arith}
use Rattle.term_text.proofs.RawTerms.{raws_length}
use Rattle.term_text.proofs.found.find_term.Goals as goal

pub returns-then-len-gt-MOST_SYMBOLS : goal.returns-then-len-gt-MOST_SYMBOLS
returns-then-len-gt-MOST_SYMBOLS c =
    λ term are.
    let known = rw c.if-not-known.false at (c.in_ok-known.ensures term (rw c.deref.ensures.value are)) in
    let long : 65536 < length term = omega (arith, c.len.ensures, raws_length c.args.bytes.now c.args.buffers.now.raws.items term are) in
    (known.0, long)

pub returns : goal.returns
returns c =
    λ term are.
    let known = rw c.if-not-known.false at (c.in_ok-known.ensures term (rw c.deref.ensures.value are)) in
    let light : length term ≤ 65536 = omega (arith, c.len.ensures, raws_length c.args.bytes.now c.args.buffers.now.raws.items term are) in
    let word : c.new.result ≡ c.look_up.new.numbers.items = c.new.ensures ∙ (c.in_ok-numbers.ensures.items ∙ c.deref-2.ensures.value) in
    rw word (known.0, light, known.1 light)
