use Rattle.std.proofs.Common.{◌≡◌, ◌<◌, ◌-◌, get_or, length, sym, ap, subst, ◌∙◌, arith}
use Rattle.std.proofs.lemmas.Option.{get_or_from_slice_get}
use Rattle.std.proofs.lemmas.Grind.{get_or_default_zero}
use Rattle.tree_checker.specs.Indices.{lit_at}
use Rattle.tree_checker.proofs.NumberTimes.{counted_below, below_at, some_numbers, last_split}
use Rattle.tree_checker.proofs.trail.Trail.last.Goals as goal

pub lit-requires : goal.lit-requires
lit-requires c =
    let below = counted_below c.self.inside.counts.items c.self.inside.numbers.items (length c.self.inside.table) c.self.invariant.1 c.self.invariant.0 in
    let some = some_numbers c.self.inside.table c.self.inside.numbers.items c.args.self.now c.self.view_is c.requires in
    subst (λ number. number < length c.self.inside.table) (sym c.index.ensures)
    (below_at c.self.inside.numbers.items (length c.self.inside.table) (c.len.result - 1) c.index.result.now below (omega (arith, some)))

pub returns : goal.returns
returns c =
    let some = some_numbers c.self.inside.table c.self.inside.numbers.items c.args.self.now c.self.view_is c.requires in
    let long : c.len.result ≡ length c.self.inside.numbers.items = omega arith in
    let at : get_or c.self.inside.numbers.items (length c.self.inside.numbers.items - 1) 0 ≡ c.index.result.now =
    ap (λ n. get_or c.self.inside.numbers.items (n - 1) 0) (sym long)
    ∙ sym (get_or_default_zero c.self.inside.numbers.items (c.len.result - 1) c.index.result.now (omega (arith, some, long))) ∙ sym c.index.ensures in
    let found : lit_at c.self.inside.table c.index.result.now ≡ c.lit.result.now = get_or_from_slice_get c.self.inside.table c.index.result.now c.lit.result.now _ c.lit.ensures in
    rw (← c.self.view_is, ← found) (last_split c.self.inside.table c.self.inside.numbers.items c.index.result.now some at)
