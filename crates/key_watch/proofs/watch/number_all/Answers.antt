use Rattle.std.proofs.Common.{◌++◌, ◌∷◌, [], ◌+◌, ◌≡◌, ◌<◌, length, map, subst, sym, ap, ◌∙◌, take, arith}
use Rattle.std.proofs.lemmas.List.{take_more, take_all}
use Rattle.mg_word.specs.declared.lit.Lit.{Lit}
use Rattle.key_watch.specs.KeyNumbers.{keys_named}
use Rattle.key_watch.specs.Keys.{key_on}
use Rattle.key_watch.specs.Watching.{WatchedNumbers}
use Rattle.key_watch.proofs.NamedKeys.{AreNumbering, grows_further, numbering_begins, numbering_more}
use Rattle.key_watch.proofs.watch.number_all.Goals as goal

pub loop-lit-init : goal.loop-lit-init
loop-lit-init c = numbering_begins c.args.side c.args.table.now c.args.numbers.now c.args.into.now.items c.requires.known c.requires.different c.requires.room

pub number_of-requires-clause-room : goal.number_of-requires-clause-room
number_of-requires-clause-room c = c.loop-lit.invariant.room

pub number_of-requires-clause-different : goal.number_of-requires-clause-different
number_of-requires-clause-different c = c.loop-lit.invariant.different

pub returns-in_err-number_of-clause-grows : goal.returns-in_err-number_of-clause-grows
returns-in_err-number_of-clause-grows c = grows_further _ _ _ c.loop-lit.invariant.grows c.number_of.ensures.grows

pub returns-in_err-number_of-clause-numbers : goal.returns-in_err-number_of-clause-numbers
returns-in_err-number_of-clause-numbers c = c.number_of.ensures.numbers ∙ ap (λ (one : WatchedNumbers). record one { keys = c.number_of.new.numbers.keys }) c.loop-lit.invariant.same

pub returns-in_err-push-clause-grows : goal.returns-in_err-push-clause-grows
returns-in_err-push-clause-grows c = grows_further _ _ _ c.loop-lit.invariant.grows c.number_of.ensures.grows

pub returns-in_err-push-clause-numbers : goal.returns-in_err-push-clause-numbers
returns-in_err-push-clause-numbers c = c.number_of.ensures.numbers ∙ ap (λ (one : WatchedNumbers). record one { keys = c.number_of.new.numbers.keys }) c.loop-lit.invariant.same

pub loop-lit-preserved : goal.loop-lit-preserved
loop-lit-preserved c =
    let small : c.loop-lit.lit-index < length c.args.lits.now = omega arith in
    let lits : take (c.loop-lit.lit-index + 1) c.args.lits.now ≡ take c.loop-lit.lit-index c.args.lits.now ++ c.lit-item.result ∷ [] =
    take_more c.args.lits.now c.loop-lit.lit-index c.lit-item.result small ∙ ap (λ (one : Lit). take c.loop-lit.lit-index c.args.lits.now ++ one ∷ []) (sym c.lit-item.is) in
    subst (λ lits. AreNumbering c.args.side lits c.args.table.now c.args.numbers.now c.args.into.now.items c.number_of.new.table c.number_of.new.numbers c.push.new.self.items) (sym lits)
    (numbering_more c.args.side (take c.loop-lit.lit-index c.args.lits.now) c.args.table.now c.args.numbers.now c.args.into.now.items c.loop-lit.table c.loop-lit.numbers c.loop-lit.into.items c.loop-lit.invariant
    c.lit-item.result c.in_ok-number_of.field-0 c.number_of.new.table c.number_of.new.numbers c.in_ok-number_of.ensures.number c.number_of.ensures.grows c.number_of.ensures.different c.number_of.ensures.room c.number_of.ensures.numbers c.push.new.self.items c.in_ok-push.ensures.items)

pub returns-clause-named : goal.returns-clause-named
returns-clause-named c =
    c.loop-lit.invariant.named ∙ ap (λ lits. keys_named c.args.table.now c.args.into.now.items ++ map (key_on c.args.side) lits) (take_all c.loop-lit.lit-index c.args.lits.now c.loop-lit-test.false)

pub returns-clause-known : goal.returns-clause-known
returns-clause-known c = c.loop-lit.invariant.known

pub returns-clause-grows : goal.returns-clause-grows
returns-clause-grows c = c.loop-lit.invariant.grows

pub returns-clause-different : goal.returns-clause-different
returns-clause-different c = c.loop-lit.invariant.different

pub returns-clause-room : goal.returns-clause-room
returns-clause-room c = c.loop-lit.invariant.room

pub returns-clause-numbers : goal.returns-clause-numbers
returns-clause-numbers c = c.loop-lit.invariant.same
