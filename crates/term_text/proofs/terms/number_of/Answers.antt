use Rattle.std.proofs.Common.{◌≡◌, sym, ap, ◌∙◌, arith}
use Rattle.mg_word.specs.Table.{symbol_of}
use Rattle.mg_word.proofs.NameTexts.{name_utf8}
use Rattle.term_text.proofs.LookUps.{number_found, symbol_is, name_bytes}
use Rattle.term_text.proofs.terms.number_of.Goals as goal

pub returns-in_default-from_utf8 : goal.returns-in_default-from_utf8
returns-in_default-from_utf8 c =
    let found = rw c.in-Some.is at c.in_ok-kind.ensures in
    let names = name_bytes c.in-Some.kind c.take_name.new.name.items 0 found.is.good in
    absurd (c.in_default-from_utf8.ensures.cases.0 (rw c.deref.ensures.value (name_utf8 c.take_name.new.name.items names)))

pub returns : goal.returns
returns c =
    let found = rw c.in-Some.is at c.in_ok-kind.ensures in
    let here = rw c.skip.ensures at found in
    let text : c.in-Ok-from_utf8.text.now ≡ c.take_name.new.name.items = c.in-Ok-from_utf8.ensures.cases.0 ∙ c.deref.ensures.value in
    number_found c.args.bytes.now c.args.raw.now c.args.symbols.now (symbol_of c.in-Ok-from_utf8.text.now c.in-Ok.arity c.in-Some.kind) c.find.result c.find.ensures.found c.find.ensures.none
    (λ symbol is.
    let same = symbol_is c.args.bytes.now c.args.raw.now symbol c.in-Some.kind c.take_name.new.name.items c.in-Some.field-0-1.now c.in-Ok.arity here (sym c.in-Ok.ensures.1) (omega (arith, c.in-Ok.ensures.0, c.in-Ok.ensures.1)) is in
    (same.0 ∙ ap (λ n. symbol_of n c.in-Ok.arity c.in-Some.kind) (sym text), same.1))
