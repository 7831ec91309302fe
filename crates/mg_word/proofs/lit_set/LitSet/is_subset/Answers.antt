use Rattle.std.proofs.Common.{◌≡◌, true, sym, ◌∙◌, arith}
use Rattle.mg_word.specs.OrderLaws.{is_tie}
use Rattle.mg_word.specs.Sets.{is_rising}
use Rattle.mg_word.proofs.RisingLists.{is_less}
use Rattle.mg_word.proofs.Merging.{merge_less, merge_equal, merge_greater, merge_done, is_greater}
use Rattle.mg_word.proofs.lit_set.LitSet.is_subset.Goals as goal
use Rattle.mg_word.proofs.lit_set.LitSet.is_subset.Goals.{then-is_eq, else-is_eq}

pub returns-then-is_lt : goal.returns-then-is_lt
returns-then-is_lt c =
    let up : is_rising c.as_slice-part.result.now ≡ true = rw c.as_slice-part.ensures.value c.self.invariant in
    let above : is_rising c.deref-held-items.result.now ≡ true = rw c.deref-held-items.ensures.value c.other.invariant in
    let less = sym c.cmp-order.ensures ∙ is_less c.cmp-order.result (sym c.is_lt.ensures ∙ c.if-is_lt.true) in
    sym (c.loop-held.invariant.1 ∙ merge_less c.as_slice-part.result.now c.deref-held-items.result.now c.loop-held.done c.loop-held.held-index c.index-part-done.result c.held-item.result
    (omega arith) c.loop-held-test.true c.index-part-done.is c.held-item.is up above less)

pub loop-held-preserved : goal.loop-held-preserved
loop-held-preserved c =
    let up : is_rising c.as_slice-part.result.now ≡ true = rw c.as_slice-part.ensures.value c.self.invariant in
    let above : is_rising c.deref-held-items.result.now ≡ true = rw c.deref-held-items.ensures.value c.other.invariant in
    elim c.if-is_eq.branch [
      | then-is_eq w ↦
          let tie = sym c.cmp-order.ensures ∙ is_tie c.cmp-order.result (sym c.is_eq.ensures ∙ w.if-is_eq.true) in
          rw w.done-is (
            omega arith,
            c.loop-held.invariant.1 ∙ merge_equal c.as_slice-part.result.now c.deref-held-items.result.now c.loop-held.done c.loop-held.held-index c.index-part-done.result c.held-item.result
                (omega arith) c.loop-held-test.true c.index-part-done.is c.held-item.is up above tie,
          )
      | else-is_eq w ↦
          let greater = sym c.cmp-order.ensures ∙ is_greater c.cmp-order.result (sym c.is_lt.ensures ∙ c.if-is_lt.false) (sym c.is_eq.ensures ∙ w.if-is_eq.false) in
          rw w.done-is (
            omega arith,
            c.loop-held.invariant.1 ∙ merge_greater c.as_slice-part.result.now c.deref-held-items.result.now c.loop-held.done c.loop-held.held-index c.index-part-done.result c.held-item.result
                (omega arith) c.loop-held-test.true c.index-part-done.is c.held-item.is up above greater,
          )
    ]

pub returns : goal.returns
returns c =
    merge_done c.as_slice-part.result.now c.deref-held-items.result.now c.loop-held.done c.loop-held.held-index c.loop-held.invariant.0 c.loop-held-test.false ∙ sym c.loop-held.invariant.1
