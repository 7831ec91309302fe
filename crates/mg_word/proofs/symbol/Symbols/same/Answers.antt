use Rattle.std.proofs.Common.{map, true≢false, sym, ◌∙◌, ap, arith}
use Rattle.mg_word.specs.Seen.{entry_seen}
use Rattle.mg_word.proofs.SameTables.{tables_differ, tables_more}
use Rattle.mg_word.proofs.symbol.Symbols.same.Goals as goal

pub returns-then-ne : goal.returns-then-ne
returns-then-ne c = (
  λ no. absurd (true≢false (sym no)),
  λ same.
      let tables = c.self.view_is ∙ same ∙ sym c.other.view_is in
      absurd (tables_differ c.as_slice-these.result.now c.as_slice-those.result.now c.loop-i.i c.index-these-i.result c.index-those-i.result
      (omega arith) (omega arith) c.index-these-i.is c.index-those-i.is c.if-ne.ensures
      (ap (map entry_seen) c.as_slice-these.ensures.keys ∙ tables ∙ ap (map entry_seen) (sym c.as_slice-those.ensures.keys))),
)

pub loop-i-preserved : goal.loop-i-preserved
loop-i-preserved c =
    tables_more c.as_slice-these.result.now c.as_slice-those.result.now c.loop-i.i c.index-these-i.result c.index-those-i.result
    (omega arith) (omega arith) c.index-these-i.is c.index-those-i.is c.if-ne.ensures c.loop-i.invariant
