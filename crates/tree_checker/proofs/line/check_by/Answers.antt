use Rattle.std.proofs.Common.{◌≡◌, true≢false, refl, sym, ap, ◌∙◌, Some}
use Rattle.std.specs.Option.{option_map}
use Rattle.mg_word.specs.Words.{numbered}
use Rattle.tree_checker.specs.Docs.{lemma_of, lemmas_of}
use Rattle.tree_checker.proofs.LineFacts.{numbered-map}
use Rattle.tree_checker.proofs.line.check_by.Goals as goal

pub returns-then-not-holds_all : goal.returns-then-not-holds_all
returns-then-not-holds_all c =
    let at : numbered (lemmas_of c.args.blocks.now) c.args.number ≡ Some (lemma_of c.in-Some.block.now) =
    numbered-map lemma_of c.args.blocks.now c.args.number ∙ ap (option_map lemma_of) (sym c.in-Some.ensures) in
    let holds = rw (c.as_slice.ensures.same, c.held.ensures) at c.holds_all.ensures in
    (lemma_of c.in-Some.block.now, at, λ all. true≢false (sym all ∙ sym holds ∙ c.if-not-holds_all.true))

pub returns-then-not-holds_all-2 : goal.returns-then-not-holds_all-2
returns-then-not-holds_all-2 c =
    let at : numbered (lemmas_of c.args.blocks.now) c.args.number ≡ Some (lemma_of c.in-Some.block.now) =
    numbered-map lemma_of c.args.blocks.now c.args.number ∙ ap (option_map lemma_of) (sym c.in-Some.ensures) in
    let holds = rw (c.as_slice.ensures.same, c.held.ensures) at c.holds_all.ensures in
    let bars = rw (c.as_slice-2.ensures.same, c.barred.ensures) at c.holds_all-2.ensures in
    (lemma_of c.in-Some.block.now, at, sym holds ∙ c.if-not-holds_all.false, λ all. true≢false (sym all ∙ sym bars ∙ c.if-not-holds_all-2.true))

pub returns : goal.returns
returns c =
    let at : numbered (lemmas_of c.args.blocks.now) c.args.number ≡ Some (lemma_of c.in-Some.block.now) =
    numbered-map lemma_of c.args.blocks.now c.args.number ∙ ap (option_map lemma_of) (sym c.in-Some.ensures) in
    let holds = rw (c.as_slice.ensures.same, c.held.ensures) at c.holds_all.ensures in
    let bars = rw (c.as_slice-2.ensures.same, c.barred.ensures) at c.holds_all-2.ensures in (
      (lemma_of c.in-Some.block.now, at, sym holds ∙ c.if-not-holds_all.false, sym bars ∙ c.if-not-holds_all-2.false),
      rw (c.in_ok-split.ensures, c.new.ensures.items) refl,
    )
