use Rattle.std.proofs.Common.{◌≡◌, ◌-◌, reverse, get_or, subst, arith}
use Rattle.std.proofs.lemmas.List.{length-reverse}
use Rattle.mg_word.proofs.Spellings.{terms_within}
use Rattle.term_store.specs.Reading.{ArePending}
use Rattle.term_store.proofs.Readings.{reached, symbol_step, arguments_within, arguments_light, store_after, pending_after, grown_after, read_whole}
use Rattle.term_store.proofs.store.TermStore.intern_word.Goals as goal

pub arity-requires : goal.arity-requires
arity-requires c =
    rw c.as_slice-symbol_numbers.ensures (terms_within c.args.symbols.now 1 c.args.word.now c.requires.fitting (c.loop-at.at - 1) (omega arith))

pub intern_last-requires-clause-many : goal.intern_last-requires-clause-many
intern_last-requires-clause-many c =
    let read = c.as_slice-symbol_numbers.result.now in
    let numbers = reverse c.loop-at.pending.items in
    let here = reached c.args.symbols.now c.loop-at.self c.args.word.now read numbers c.loop-at.at c.arity.result (omega arith) c.loop-at.invariant.0 c.as_slice-symbol_numbers.ensures c.loop-at.invariant.1 c.requires.fitting c.loop-at.invariant.2 c.arity.ensures in
    let step = symbol_step c.args.symbols.now c.loop-at.self c.args.word.now (c.loop-at.at - 1) (get_or read (c.loop-at.at - 1) 0) c.arity.result numbers here in
    omega (arith, step.many, length-reverse c.loop-at.pending.items)

pub intern_last-requires-clause-held : goal.intern_last-requires-clause-held
intern_last-requires-clause-held c =
    let read = c.as_slice-symbol_numbers.result.now in
    let numbers = reverse c.loop-at.pending.items in
    let here = reached c.args.symbols.now c.loop-at.self c.args.word.now read numbers c.loop-at.at c.arity.result (omega arith) c.loop-at.invariant.0 c.as_slice-symbol_numbers.ensures c.loop-at.invariant.1 c.requires.fitting c.loop-at.invariant.2 c.arity.ensures in
    arguments_within c.args.symbols.now c.loop-at.self c.args.word.now (c.loop-at.at - 1) (get_or read (c.loop-at.at - 1) 0) c.arity.result numbers here

pub intern_last-requires-clause-light : goal.intern_last-requires-clause-light
intern_last-requires-clause-light c =
    let read = c.as_slice-symbol_numbers.result.now in
    let numbers = reverse c.loop-at.pending.items in
    let here = reached c.args.symbols.now c.loop-at.self c.args.word.now read numbers c.loop-at.at c.arity.result (omega arith) c.loop-at.invariant.0 c.as_slice-symbol_numbers.ensures c.loop-at.invariant.1 c.requires.fitting c.loop-at.invariant.2 c.arity.ensures in
    let light = arguments_light c.args.symbols.now c.loop-at.self c.args.word.now (c.loop-at.at - 1) (get_or read (c.loop-at.at - 1) 0) c.arity.result numbers here in
    omega (arith, light)

pub loop-at-preserved : goal.loop-at-preserved
loop-at-preserved c =
    let read = c.as_slice-symbol_numbers.result.now in
    let numbers = reverse c.loop-at.pending.items in
    let here = reached c.args.symbols.now c.loop-at.self c.args.word.now read numbers c.loop-at.at c.arity.result (omega arith) c.loop-at.invariant.0 c.as_slice-symbol_numbers.ensures c.loop-at.invariant.1 c.requires.fitting c.loop-at.invariant.2 c.arity.ensures in
    let adds = c.in_ok-intern_last.ensures.grown in (
      omega (arith, c.loop-at.invariant.0),
      store_after c.args.symbols.now c.loop-at.self c.args.word.now (c.loop-at.at - 1) (get_or read (c.loop-at.at - 1) 0) c.arity.result numbers here c.intern_last.new.self adds,
      pending_after c.args.symbols.now c.loop-at.self c.args.word.now (c.loop-at.at - 1) (get_or read (c.loop-at.at - 1) 0) c.arity.result numbers here c.intern_last.new.self adds
          (reverse c.intern_last.new.pending.items) c.in_ok-intern_last.ensures.ok,
      grown_after c.args.symbols.now c.loop-at.self c.args.word.now (c.loop-at.at - 1) (get_or read (c.loop-at.at - 1) 0) c.arity.result numbers here c.intern_last.new.self adds
          c.args.self.now c.loop-at.invariant.3,
    )

pub returns-in_err-intern_last-clause-grown : goal.returns-in_err-intern_last-clause-grown
returns-in_err-intern_last-clause-grown c =
    let read = c.as_slice-symbol_numbers.result.now in
    let numbers = reverse c.loop-at.pending.items in
    let here = reached c.args.symbols.now c.loop-at.self c.args.word.now read numbers c.loop-at.at c.arity.result (omega arith) c.loop-at.invariant.0 c.as_slice-symbol_numbers.ensures c.loop-at.invariant.1 c.requires.fitting c.loop-at.invariant.2 c.arity.ensures in
    grown_after c.args.symbols.now c.loop-at.self c.args.word.now (c.loop-at.at - 1) (get_or read (c.loop-at.at - 1) 0) c.arity.result numbers here c.intern_last.new.self c.in_err-intern_last.ensures.grown
    c.args.self.now c.loop-at.invariant.3

pub returns-clause-number : goal.returns-clause-number
returns-clause-number c =
    let start : c.loop-at.at ≡ 0 = omega arith in
    let done = subst (λ n. ArePending c.args.symbols.now c.loop-at.self c.args.word.now n (reverse c.loop-at.pending.items)) start c.loop-at.invariant.2 in
    read_whole c.args.symbols.now c.loop-at.self c.args.word.now c.pop.new.self.items c.in-Some.id c.loop-at.invariant.1 c.requires.fitting
    (rw c.in-Some.ensures.items at done)
