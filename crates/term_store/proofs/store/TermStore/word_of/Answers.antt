use Rattle.std.proofs.Common.{◌<◌, ◌++◌, length, reverse, Some, ap, ◌∙◌, arith}
use Rattle.std.specs.List.{flat_map}
use Rattle.std.proofs.lemmas.List.Elements.{All-pop}
use Rattle.term_store.specs.Terms.{word_at}
use Rattle.term_store.proofs.Readings.{word_step, arguments_held, word_left}
use Rattle.term_store.proofs.store.TermStore.word_of.Goals as goal

pub loop-number-smaller : goal.loop-number-smaller
loop-number-smaller c =
    let terms = c.args.self.now in
    let parts = All-pop (λ n. n < length terms) c.loop-number.pending.items c.pop.new.self.items (Some c.in-Some.number) c.in-Some.ensures.items c.loop-number.invariant.1 in
    let so_far = c.loop-number.invariant.0 ∙ ap (λ l. c.loop-number.symbols.items ++ flat_map (word_at terms) (reverse l)) c.in-Some.ensures.items in
    let left = word_left terms (word_at terms c.args.id) c.loop-number.symbols.items c.pop.new.self.items c.in-Some.number c.facts.ensures.store parts.1 so_far in
    omega (arith, left, c.in_ok-push-2.ensures.len)

pub loop-number-preserved : goal.loop-number-preserved
loop-number-preserved c =
    let terms = c.args.self.now in
    let parts = All-pop (λ n. n < length terms) c.loop-number.pending.items c.pop.new.self.items (Some c.in-Some.number) c.in-Some.ensures.items c.loop-number.invariant.1 in
    let so_far = c.loop-number.invariant.0 ∙ ap (λ l. c.loop-number.symbols.items ++ flat_map (word_at terms) (reverse l)) c.in-Some.ensures.items in
    rw (c.in_ok-push-2.ensures.items, c.in_ok-push_reversed.ensures) (
      word_step terms (word_at terms c.args.id) c.loop-number.symbols.items c.pop.new.self.items c.parts_of-symbol.result.1.now c.in-Some.number c.parts_of-symbol.result.0 c.facts.ensures.store c.parts_of-symbol.ensures so_far,
      arguments_held terms c.pop.new.self.items c.parts_of-symbol.result.1.now c.in-Some.number c.parts_of-symbol.result.0 c.facts.ensures.store c.parts_of-symbol.ensures parts.0,
    )
