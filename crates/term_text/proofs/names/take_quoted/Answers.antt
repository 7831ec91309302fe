use Rattle.std.proofs.Common.{◌≡◌, ◌∷◌}
use Rattle.term_text.proofs.Texts.{first_and_rest}
use Rattle.term_text.proofs.Quotes.{unquoting_more, unquoting_ends, unquoting_stops}
use Rattle.term_text.proofs.names.take_quoted.Goals as goal

pub returns-then-first-quote : goal.returns-then-first-quote
returns-then-first-quote c =
    let split = first_and_rest c.loop-rest.rest.now c.in-len1-up.len_at_least in
    let begins : c.loop-rest.rest.now ≡ c.args.quote ∷ c.skip.result.now = cc in
    unquoting_ends c.args.quote c.args.bytes.now c.loop-rest.rest.now c.skip.result.now c.loop-rest.name.items c.requires begins c.loop-rest.invariant

pub returns-in_default-next_byte : goal.returns-in_default-next_byte
returns-in_default-next_byte c =
    let split = first_and_rest c.loop-rest.rest.now c.in-len1-up.len_at_least in
    unquoting_stops c.args.quote _ c.args.bytes.now c.loop-rest.rest.now _ c.loop-rest.name.items split c.if-first-quote.false c.in_default-next_byte.ensures c.loop-rest.invariant

pub loop-rest-preserved : goal.loop-rest-preserved
loop-rest-preserved c =
    rw (c.skip-rest.ensures, c.in_ok-push.ensures.items)
    (unquoting_more c.args.quote c.in-Some.byte c.args.bytes.now c.loop-rest.rest.now _ c.loop-rest.name.items c.requires c.in-Some.ensures.0 c.loop-rest.invariant)
