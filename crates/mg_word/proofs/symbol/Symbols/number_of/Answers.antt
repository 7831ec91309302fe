use Rattle.std.proofs.Common.{true≢false, sym, ◌∙◌}
use Rattle.mg_word.specs.Seen.{entry_seen}
use Rattle.mg_word.specs.contracts.symbol.EntryPartialEq.TheImpl.{eq-value}
use Rattle.mg_word.proofs.Entries.{entry_same, entry_equal, position_seen, seen_any}
use Rattle.mg_word.proofs.symbol.Symbols.number_of.Goals as goal

pub unreachable-requires : goal.unreachable-requires
unreachable-requires c =
    true≢false
    (sym (seen_any eq-value.it entry_seen entry_same entry_equal c.self.inside.entries.keys c.args.entry.now (rw c.self.view_is c.requires)) ∙ sym c.in-None.ensures.found)

pub returns : goal.returns
returns c = rw (← c.self.view_is) (position_seen eq-value.it entry_seen entry_same entry_equal c.self.inside.entries.keys c.args.entry.now c.in-Some.id c.in-Some.ensures.index)
