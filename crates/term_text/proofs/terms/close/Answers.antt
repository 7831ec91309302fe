use Rattle.std.proofs.Common.{◌≡◌, ◌+◌, ◌∷◌, drop, sym, ap, ◌∙◌, arith}
use Rattle.std.proofs.lemmas.List.{drop_more, drop_all, nil_from_length}
use Rattle.term_text.specs.Terms.{ends_term}
use Rattle.term_text.proofs.TermReading.{close_index, close_empty, close_other, close_comma, close_bracket, close_all, close_wrong}
use Rattle.term_text.proofs.terms.close.Goals as goal

pub raise-requires : goal.raise-requires
raise-requires c = close_index c.args.bytes.now _ _ _ c.in-Some.level c.in-Some.ensures.items _ c.loop-level.invariant.after

pub returns-then-at-bytes : goal.returns-then-at-bytes
returns-then-at-bytes c =
    close_empty c.args.bytes.now _ _ _ c.in-Some.level c.in-Some.ensures.items _ (drop_all c.loop-level.at c.args.bytes.now c.if-at-bytes.true) c.loop-level.invariant.after

pub returns-then-byte-eq44 : goal.returns-then-byte-eq44
returns-then-byte-eq44 c =
    let more = drop_more c.args.bytes.now c.loop-level.at 0 (omega arith) in
    let is : drop c.loop-level.at c.args.bytes.now ≡ 44 ∷ drop (c.loop-level.at + 1) c.args.bytes.now = more ∙ ap (λ b. b ∷ drop (c.loop-level.at + 1) c.args.bytes.now) c.if-byte-eq44.true in (
      omega (arith, c.loop-level.invariant.from),
      omega arith,
      rw (c.raise.ensures, c.in_ok-push.ensures.items)
          (close_comma c.args.bytes.now c.loop-level.raws.items c.loop-level.opens.items c.pop.new.self.items c.in-Some.level c.in-Some.ensures.items _ _ is c.loop-level.invariant.after),
    )

pub returns-then-byte-ne41 : goal.returns-then-byte-ne41
returns-then-byte-ne41 c =
    let more = drop_more c.args.bytes.now c.loop-level.at 0 (omega arith) in
    close_other c.args.bytes.now _ _ _ c.in-Some.level c.in-Some.ensures.items _ _ _ more c.if-byte-eq44.false c.if-byte-ne41.true c.loop-level.invariant.after

pub loop-level-preserved : goal.loop-level-preserved
loop-level-preserved c =
    let more = drop_more c.args.bytes.now c.loop-level.at 0 (omega arith) in
    let is : drop c.loop-level.at c.args.bytes.now ≡ 41 ∷ drop (c.loop-level.at + 1) c.args.bytes.now = more ∙ ap (λ b. b ∷ drop (c.loop-level.at + 1) c.args.bytes.now) c.if-byte-ne41.false in
    record {
      after =
          rw c.raise.ensures
          (close_bracket c.args.bytes.now c.loop-level.raws.items c.loop-level.opens.items c.pop.new.self.items c.in-Some.level c.in-Some.ensures.items _ _ is c.loop-level.invariant.after);
      from = omega (arith, c.loop-level.invariant.from);
      within = omega arith;
    }

pub returns-then-not-ends_term : goal.returns-then-not-ends_term
returns-then-not-ends_term c =
    close_wrong c.args.bytes.now _ c.loop-level.opens.items _ (nil_from_length c.loop-level.opens.items (omega (arith, c.in_default.ensures.cases.0))) (ap ends_term (sym c.skip.ensures) ∙ sym c.if-not-ends_term.ensures) c.loop-level.invariant.after

pub returns : goal.returns
returns c = (
  c.loop-level.invariant.from,
  c.loop-level.invariant.within,
  close_all c.args.bytes.now _ c.loop-level.opens.items _ (nil_from_length c.loop-level.opens.items (omega (arith, c.in_default.ensures.cases.0))) (ap ends_term (sym c.skip.ensures) ∙ sym c.if-not-ends_term.ensures) c.loop-level.invariant.after,
)
