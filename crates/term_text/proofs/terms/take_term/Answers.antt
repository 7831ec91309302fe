use Rattle.std.proofs.Common.{◌≡◌, ◌-◌, [], ◌∷◌, ◌++◌, length, drop, ap, ◌∙◌, arith, length-drop}
use Rattle.mg_word.specs.Spelling.{spelled_name}
use Rattle.term_text.proofs.RawTerms.{suffix_at, suffix_length}
use Rattle.term_text.proofs.TermReading.{argument_starts, argument_missing, constant_read, bracket_read, behind_bracket}
use Rattle.term_text.proofs.terms.take_term.Goals as goal

pub loop-kind-init : goal.loop-kind-init
loop-kind-init c = record { argument = argument_starts c.args.bytes.now _ _ c.clear.ensures.items c.clear-2.ensures.items; within = omega arith }

pub returns-in_default : goal.returns-in_default
returns-in_default c =
    let missing = rw c.in_default.is at c.in_ok-kind.ensures in
    argument_missing c.args.bytes.now _ _ _ (rw c.skip.ensures at missing) c.loop-kind.invariant.argument

pub loop-kind-preserved-then-opens_bracket : goal.loop-kind-preserved-then-opens_bracket
loop-kind-preserved-then-opens_bracket c =
    let found = rw c.in-Some.is at c.in_ok-kind.ensures in
    let here = rw c.skip.ensures at found in
    let opens = rw c.if-opens_bracket.true at c.opens_bracket.ensures in
    let behind = suffix_at c.args.bytes.now (spelled_name c.in-Some.kind c.take_name.new.name.items) c.in-Some.behind.now c.loop-kind.at c.loop-kind.invariant.within here.is.text in
    let short = suffix_length (spelled_name c.in-Some.kind c.take_name.new.name.items) c.in-Some.behind.now (drop c.loop-kind.at c.args.bytes.now) here.is.text in
    let next = behind_bracket c.args.bytes.now c.in-Some.behind.now opens.1.0 (length c.args.bytes.now - length c.in-Some.behind.now) behind opens.1.1 in
    let count : c.len.result - 1 ≡ length c.loop-kind.raws.items = omega (arith, c.len.ensures, c.in_ok-push.ensures.len) in
    let opens_is : c.push-then-opens_bracket.new.self.items ≡ c.loop-kind.opens.items ++ length c.loop-kind.raws.items ∷ [] = c.in_ok-push-2.ensures.items ∙ ap (λ n. c.loop-kind.opens.items ++ n ∷ []) count in
    record {
      argument =
          rw (c.in_ok-push.ensures.items, opens_is, next.0)
          (bracket_read c.args.bytes.now c.loop-kind.raws.items c.loop-kind.opens.items c.loop-kind.at c.in-Some.kind c.take_name.new.name.items c.in-Some.behind.now here opens.1.0 opens.0 opens.1.1 c.loop-kind.invariant.argument);
      within = omega (arith, next.1, short, length-drop c.loop-kind.at c.args.bytes.now);
    }

pub close-requires-clause-after : goal.close-requires-clause-after
close-requires-clause-after c =
    let found = rw c.in-Some.is at c.in_ok-kind.ensures in
    let here = rw c.skip.ensures at found in
    let closed = rw c.if-opens_bracket.false at c.opens_bracket.ensures in
    let behind = suffix_at c.args.bytes.now (spelled_name c.in-Some.kind c.take_name.new.name.items) c.in-Some.behind.now c.loop-kind.at c.loop-kind.invariant.within here.is.text in
    rw (c.in_ok-push.ensures.items, behind)
    (constant_read c.args.bytes.now c.loop-kind.raws.items c.loop-kind.opens.items c.loop-kind.at c.in-Some.kind c.take_name.new.name.items c.in-Some.behind.now here closed c.loop-kind.invariant.argument)
