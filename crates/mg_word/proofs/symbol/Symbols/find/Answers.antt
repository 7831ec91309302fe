use Rattle.std.proofs.Common.{true≢false, sym, ◌∙◌, refl}
use Rattle.mg_word.specs.Seen.{entry_seen}
use Rattle.mg_word.specs.declared.symbol.Entry.{Entry}
use Rattle.mg_word.specs.contracts.symbol.EntryPartialEq.TheImpl.{eq-value}
use Rattle.mg_word.proofs.Entries.{entry_same, entry_equal, position_seen, any_seen, seen_any}
use Rattle.mg_word.proofs.symbol.Symbols.find.Goals as goal

pub returns-in-Some-clause-found : goal.returns-in-Some-clause-found
returns-in-Some-clause-found c =
    let key : Entry = record { name = c.in_ok-from_str.field-0; arity = c.args.arity; kind = c.args.kind } in
    rw (← c.self.view_is, ← c.in_ok-from_str.ensures.ok)
    (position_seen eq-value.it entry_seen entry_same entry_equal c.self.inside.entries.keys key c.in-Some.id c.in-Some.ensures.index)

pub returns-in-Some-clause-none : goal.returns-in-Some-clause-none
returns-in-Some-clause-none c =
    let key : Entry = record { name = c.in_ok-from_str.field-0; arity = c.args.arity; kind = c.args.kind } in
    let there = any_seen eq-value.it entry_seen entry_same entry_equal c.self.inside.entries.keys key (sym c.in-Some.ensures.found) in
    (λ some. absurd (true≢false some), λ missing. absurd (missing (rw (← c.self.view_is, ← c.in_ok-from_str.ensures.ok) there)))

pub returns-clause-none : goal.returns-clause-none
returns-clause-none c =
    let key : Entry = record { name = c.in_ok-from_str.field-0; arity = c.args.arity; kind = c.args.kind } in (
      λ _ there. true≢false
          (sym (seen_any eq-value.it entry_seen entry_same entry_equal c.self.inside.entries.keys key (rw (c.self.view_is, c.in_ok-from_str.ensures.ok) there)) ∙ sym c.in-None.ensures.found),
      λ _. refl,
    )
