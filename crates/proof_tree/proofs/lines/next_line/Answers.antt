use Rattle.std.proofs.Common.{◌+◌, [], ◌∷◌, length-drop, ◌++◌, length, take, drop, sym, ap, ◌∙◌, subst, arith}
use Rattle.std.proofs.lemmas.List.{drop-drop}
use Rattle.proof_tree.specs.Bare.{bare}
use Rattle.ascii_text.specs.Bytes.{is_in_line}
use Rattle.proof_tree.specs.FirstFaults.{BeginsWithLine}
use Rattle.term_text.specs.Fronts.{begins_with}
use Rattle.term_text.proofs.Texts.{cut_len, cut_whole, cut_short}
use Rattle.proof_tree.proofs.BareLines.{line_kept, line_passed, feed_behind}
use Rattle.proof_tree.proofs.lines.next_line.Goals as goal

pub skip-requires : goal.skip-requires
skip-requires c = cut_short is_in_line c.loop-rest.rest.now c.line_len-count.result c.line_len-count.ensures

pub front-requires : goal.front-requires
front-requires c = cut_short is_in_line c.loop-rest.rest.now c.line_len-count.result c.line_len-count.ensures

pub text_end-requires : goal.text_end-requires
text_end-requires c = cut_whole is_in_line c.loop-rest.rest.now (sym c.line_len-count.ensures ∙ c.if-count-rest.true)

pub skip-after-requires : goal.skip-after-requires
skip-after-requires c = omega (arith, ap length c.skip.ensures, length-drop c.line_len-count.result c.loop-rest.rest.now, cut_short is_in_line c.loop-rest.rest.now c.line_len-count.result c.line_len-count.ensures, c.if-count-rest.false)

pub returns-then-not-starts-clause-line : goal.returns-then-not-starts-clause-line
returns-then-not-starts-clause-line c =
    let cut = cut_len is_in_line c.loop-rest.rest.now c.line_len-count.result c.line_len-count.ensures in
    let short = cut_short is_in_line c.loop-rest.rest.now c.line_len-count.result c.line_len-count.ensures in
    let feed = feed_behind c.loop-rest.rest.now c.line_len-count.result (omega (arith, short, c.if-count-rest.false)) cut.ends in
    let whole = ap (λ l. take c.line_len-count.result c.loop-rest.rest.now ++ l) (sym feed) ∙ cut.split in
    let kept = line_kept (take c.line_len-count.result c.loop-rest.rest.now) (drop (c.line_len-count.result + 1) c.loop-rest.rest.now) cut.all (ap (begins_with (37 ∷ [])) whole ∙ sym c.if-not-starts.ensures) in
    let after = c.skip-after.ensures ∙ (ap (drop 1) c.skip.ensures ∙ drop-drop 1 c.line_len-count.result c.loop-rest.rest.now) in
    rw (c.front.ensures, after, c.loop-rest.invariant.same)
    (subst (λ l. BeginsWithLine (bare l) (take c.line_len-count.result c.loop-rest.rest.now) (bare (drop (c.line_len-count.result + 1) c.loop-rest.rest.now))) whole kept)

pub loop-rest-preserved : goal.loop-rest-preserved
loop-rest-preserved c =
    let cut = cut_len is_in_line c.loop-rest.rest.now c.line_len-count.result c.line_len-count.ensures in
    let short = cut_short is_in_line c.loop-rest.rest.now c.line_len-count.result c.line_len-count.ensures in
    let feed = feed_behind c.loop-rest.rest.now c.line_len-count.result (omega (arith, short, c.if-count-rest.false)) cut.ends in
    let whole = ap (λ l. take c.line_len-count.result c.loop-rest.rest.now ++ l) (sym feed) ∙ cut.split in
    let passed = line_passed (take c.line_len-count.result c.loop-rest.rest.now) (drop (c.line_len-count.result + 1) c.loop-rest.rest.now) cut.all (ap (begins_with (37 ∷ [])) whole ∙ sym c.if-not-starts.ensures) in
    let after = c.skip-after.ensures ∙ (ap (drop 1) c.skip.ensures ∙ drop-drop 1 c.line_len-count.result c.loop-rest.rest.now) in
    record {
      same = rw after (c.loop-rest.invariant.same ∙ (ap bare (sym whole) ∙ passed));
      shorter = omega (arith, ap length after, length-drop (c.line_len-count.result + 1) c.loop-rest.rest.now, c.loop-rest.invariant.shorter);
    }
