use Rattle.std.proofs.Common.{sym, ◌∙◌, ap, Some}
use Rattle.std.specs.Option.{option_map}
use Rattle.std.proofs.lemmas.Option.{slice_get-map}
use Rattle.mg_word.specs.Seen.{entry_seen}
use Rattle.mg_word.specs.declared.symbol.Entry.{Entry}
use Rattle.mg_word.specs.contracts.symbol.EntryPartialEq.TheImpl.{eq-value}
use Rattle.mg_word.proofs.Entries.{entry_same, entry_equal, insert_held, insert_added}
use Rattle.mg_word.proofs.symbol.Symbols.intern.Goals as goal

pub returns-clause-number : goal.returns-clause-number
returns-clause-number c =
    let key : Entry = record { name = c.in_ok-from_str.field-0; arity = c.args.arity; kind = c.args.kind } in
    let stored = c.in_ok-id.ensures.stored in
    rw (← c.in_ok-from_str.ensures.ok)
    (slice_get-map entry_seen _ c.in_ok-id.id ∙ ap (option_map entry_seen) stored.1 ∙ ap Some (sym (entry_same key stored.0 stored.2)))

pub returns-clause-held : goal.returns-clause-held
returns-clause-held c there =
    let key : Entry = record { name = c.in_ok-from_str.field-0; arity = c.args.arity; kind = c.args.kind } in
    rw (c.in_ok-id.ensures.keys, ← c.self.view_is)
    (insert_held eq-value.it entry_seen entry_same entry_equal c.self.inside.entries.keys key (rw (c.self.view_is, c.in_ok-from_str.ensures.ok) there))

pub returns-clause-added : goal.returns-clause-added
returns-clause-added c missing =
    let key : Entry = record { name = c.in_ok-from_str.field-0; arity = c.args.arity; kind = c.args.kind } in
    rw (c.in_ok-id.ensures.keys, ← c.self.view_is, ← c.in_ok-from_str.ensures.ok)
    (insert_added eq-value.it entry_seen entry_same entry_equal c.self.inside.entries.keys key (rw (c.self.view_is, c.in_ok-from_str.ensures.ok) missing))
