use Rattle.std.proofs.Common.{◌≡◌, map, length, sym, ◌∙◌, arith, Contains}
use Rattle.std.proofs.lemmas.List.Elements.{All-contains}
use Rattle.mg_word.specs.Seen.{entry_seen}
use Rattle.mg_word.proofs.Sorting.{symbol_at, symbol_there, renumbered_more}
use Rattle.mg_word.proofs.symbol.Symbols.numbers_in.Goals as goal

pub number_of-requires : goal.number_of-requires
number_of-requires c =
    let there = symbol_there c.as_slice-entry-items.result.now c.loop-entry.entry-index c.entry-item.result c.loop-entry-test.true c.entry-item.is in
    let keys = c.as_slice-entry-items.ensures.keys in
    All-contains (Contains c.args.other.now) c.args.self.now (entry_seen c.entry-item.result) c.requires (rw (← c.self.view_is, ← keys) there)

pub loop-entry-preserved : goal.loop-entry-preserved
loop-entry-preserved c =
    let at = symbol_at c.as_slice-entry-items.result.now c.loop-entry.entry-index c.entry-item.result c.loop-entry-test.true c.entry-item.is in
    let many : length c.loop-entry.numbers.items ≡ c.loop-entry.entry-index = omega arith in (
      omega (arith, c.in_ok-push.ensures.len, c.loop-entry.invariant.0),
      rw c.in_ok-push.ensures.items
          (renumbered_more c.loop-entry.numbers.items c.loop-entry.entry-index c.number_of.result c.args.other.now (map entry_seen c.as_slice-entry-items.result.now)
          many (c.number_of.ensures ∙ sym at) c.loop-entry.invariant.1),
    )
