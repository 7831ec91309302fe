use Rattle.mg_word.specs.Seen.{entry_seen}
use Rattle.mg_word.specs.contracts.symbol.EntryPartialEq.TheImpl.{eq-value}
use Rattle.mg_word.proofs.Entries.{entry_equal}
use Rattle.mg_word.proofs.Different.{different}
use Rattle.mg_word.proofs.symbol.Symbols.len.Goals as goal

pub returns-clause-different : goal.returns-clause-different
returns-clause-different c = rw (← c.self.view_is) (different eq-value.it entry_seen entry_equal c.self.inside.entries.keys c.as_slice.ensures.unique)
