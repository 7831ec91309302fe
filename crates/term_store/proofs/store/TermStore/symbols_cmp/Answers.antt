use Rattle.std.proofs.Common.{sym, ap, ◌∙◌, arith}
use Rattle.std.specs.Ordering.{nat_cmp}
use Rattle.std.specs.Cmp.Lexicographic.{slice_cmp}
use Rattle.term_store.specs.Terms.{word_at}
use Rattle.term_store.proofs.Differings.{differ_first, differ_second, differ_below, symbols_differ, fronts_same, same_symbols}
use Rattle.term_store.proofs.store.TermStore.symbols_cmp.Goals as goal

pub returns-then-symbol-other : goal.returns-then-symbol-other
returns-then-symbol-other c table over_a over_b =
    let below = c.loop-left.invariant.2 table over_a over_b in
    c.cmp.ensures
    ∙ (symbols_differ table c.args.self.now c.facts.ensures.store c.loop-left.left c.loop-left.right c.parts_of-symbol.result.0 c.parts_of-other.result.0 c.parts_of-symbol.result.1.now c.parts_of-other.result.1.now
    c.parts_of-symbol.ensures c.parts_of-other.ensures c.if-symbol-other.true
    ∙ sym below.2)

pub returns-in-None : goal.returns-in-None
returns-in-None c table over_a over_b =
    let below = c.loop-left.invariant.2 table over_a over_b in
    let parts = c.in-None.ensures in
    absurd (c.loop-left-test.true
    (fronts_same table c.args.self.now c.facts.ensures.store c.loop-left.left c.loop-left.right c.parts_of-symbol.result.0 c.parts_of-symbol.result.1.now c.parts_of-other.result.1.now parts.0
    c.parts_of-symbol.ensures (rw c.if-symbol-other.false c.parts_of-other.ensures) parts.1 below.0 below.1))

pub loop-left-smaller : goal.loop-left-smaller
loop-left-smaller c =
    differ_first c.args.self.now c.loop-left.left c.parts_of-symbol.result.0 c.in-Some.x c.in-Some.y c.parts_of-symbol.result.1.now c.parts_of-other.result.1.now c.facts.ensures.store c.parts_of-symbol.ensures c.in-Some.ensures

pub loop-left-preserved : goal.loop-left-preserved
loop-left-preserved c =
    let terms = c.args.self.now in
    let first = differ_first terms c.loop-left.left c.parts_of-symbol.result.0 c.in-Some.x c.in-Some.y c.parts_of-symbol.result.1.now c.parts_of-other.result.1.now c.facts.ensures.store c.parts_of-symbol.ensures c.in-Some.ensures in
    let second = differ_second terms c.loop-left.right c.parts_of-other.result.0 c.in-Some.x c.in-Some.y c.parts_of-symbol.result.1.now c.parts_of-other.result.1.now c.facts.ensures.store c.parts_of-other.ensures c.in-Some.ensures in (
      omega (arith, first, c.loop-left.invariant.0),
      omega (arith, second, c.loop-left.invariant.1),
      λ table over_a over_b.
          let below = c.loop-left.invariant.2 table over_a over_b in
          let further = differ_below table terms c.facts.ensures.store c.loop-left.left c.loop-left.right c.parts_of-symbol.result.0 c.in-Some.x c.in-Some.y c.parts_of-symbol.result.1.now c.parts_of-other.result.1.now
          c.parts_of-symbol.ensures (rw c.if-symbol-other.false c.parts_of-other.ensures) c.in-Some.ensures below.0 below.1 in
          (further.0, further.1, below.2 ∙ further.2),
    )

pub returns : goal.returns
returns c table over_a over_b =
    let below = c.loop-left.invariant.2 table over_a over_b in
    sym (below.2 ∙ (ap (λ n. slice_cmp nat_cmp (word_at c.args.self.now c.loop-left.left) (word_at c.args.self.now n)) (sym c.loop-left-test.false) ∙ same_symbols (word_at c.args.self.now c.loop-left.left)))
