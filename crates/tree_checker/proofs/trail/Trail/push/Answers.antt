use Rattle.std.proofs.Common.{◌≡◌, ◌<◌, ◌≤◌, ◌+◌, ◌-◌, ◌++◌, ◌∷◌, [], length, map, take, ap, ◌∙◌, arith, replicate, Ok, Err, OnErr}
use Rattle.std.specs.declared.result.Result.{Result}
use Rattle.std.proofs.lemmas.List.{length-set, map-append}
use Rattle.std.proofs.lemmas.Grind.{get_or_default_zero}
use Rattle.tree_checker.specs.Indices.{lit_at}
use Rattle.tree_checker.proofs.FirstIndices.{index_at}
use Rattle.tree_checker.proofs.NumberTimes.{no_lit, counted_below, lits_same, long_as, filled, counted_pushed, times_most}
use Rattle.tree_checker.proofs.trail.Trail.push.Goals as goal

on_err : {T E : Type 0} (result : Result T E) (P : Type 0) → P → OnErr result P
on_err (Ok value) P holds = tt
on_err (Err fault) P holds = holds

pub returns-in_err-resize-clause-err : goal.returns-in_err-resize-clause-err
returns-in_err-resize-clause-err c =
    let below = counted_below c.self.inside.counts.items c.self.inside.numbers.items (length c.self.inside.table) c.self.invariant.1 c.self.invariant.0 in
    let same = lits_same c.self.inside.table c.args.lit c.self.inside.numbers.items below in
    on_err c.from_residual-in_err-resize.result _ (ap (λ table. map (lit_at table) c.self.inside.numbers.items) c.in_ok-number.ensures.ok ∙ same ∙ c.self.view_is)

pub returns-in_err-push-clause-err : goal.returns-in_err-push-clause-err
returns-in_err-push-clause-err c =
    let below = counted_below c.self.inside.counts.items c.self.inside.numbers.items (length c.self.inside.table) c.self.invariant.1 c.self.invariant.0 in
    let same = lits_same c.self.inside.table c.args.lit c.self.inside.numbers.items below in
    on_err c.from_residual-in_err-push.result _
    (ap (map (lit_at c.number.new.self)) c.in_err-push.ensures.items ∙ ap (λ table. map (lit_at table) c.self.inside.numbers.items) c.in_ok-number.ensures.ok ∙ same ∙ c.self.view_is)

pub index_mut-requires : goal.index_mut-requires
index_mut-requires c =
    let at = index_at c.number.new.self c.args.lit no_lit c.in_ok-number.number c.in_ok-number.ensures.number in
    omega (arith, at.0, c.len.ensures.value, c.in_ok-resize.ensures.len)

pub overflow_add-index_mut : goal.overflow_add-index_mut
overflow_add-index_mut c =
    let at = index_at c.number.new.self c.args.lit no_lit c.in_ok-number.number c.in_ok-number.ensures.number in
    let most = times_most c.in_ok-number.number c.self.inside.numbers.items in
    let grown : length c.self.inside.table ≤ length c.number.new.self = rw c.in_ok-number.ensures.ok (long_as c.self.inside.table c.args.lit) in
    let long : c.self.inside.counts.len ≡ length c.self.inside.counts.items = omega arith in
    let all : c.resize.new.self.items ≡ take (length c.number.new.self) c.self.inside.counts.items ++ replicate (length c.number.new.self - length c.self.inside.counts.items) 0 =
    c.in_ok-resize.ensures.items ∙ ap (λ n. take n c.self.inside.counts.items ++ replicate (n - c.self.inside.counts.len) 0) c.len.ensures.value
    ∙ ap (λ n. take (length c.number.new.self) c.self.inside.counts.items ++ replicate (length c.number.new.self - n) 0) long in
    let counted = filled c.self.inside.counts.items c.resize.new.self.items c.self.inside.numbers.items (length c.number.new.self) c.self.invariant.1 (omega (arith, c.self.invariant.0, grown)) all in
    let within : c.in_ok-number.number < length c.resize.new.self.items = omega (arith, at.0, c.len.ensures.value, c.in_ok-resize.ensures.len) in
    let count = c.index_mut.ensures.value ∙ get_or_default_zero c.resize.new.self.items c.in_ok-number.number c.index_mut.result.now within ∙ counted c.in_ok-number.number in
    omega (arith, count, most)

pub invariant_of-self-2 : goal.invariant_of-self-2
invariant_of-self-2 c =
    let at = index_at c.number.new.self c.args.lit no_lit c.in_ok-number.number c.in_ok-number.ensures.number in
    let grown : length c.self.inside.table ≤ length c.number.new.self = rw c.in_ok-number.ensures.ok (long_as c.self.inside.table c.args.lit) in
    let long : c.self.inside.counts.len ≡ length c.self.inside.counts.items = omega arith in
    let all : c.resize.new.self.items ≡ take (length c.number.new.self) c.self.inside.counts.items ++ replicate (length c.number.new.self - length c.self.inside.counts.items) 0 =
    c.in_ok-resize.ensures.items ∙ ap (λ n. take n c.self.inside.counts.items ++ replicate (n - c.self.inside.counts.len) 0) c.len.ensures.value
    ∙ ap (λ n. take (length c.number.new.self) c.self.inside.counts.items ++ replicate (length c.number.new.self - n) 0) long in
    let counted = filled c.self.inside.counts.items c.resize.new.self.items c.self.inside.numbers.items (length c.number.new.self) c.self.invariant.1 (omega (arith, c.self.invariant.0, grown)) all in
    let within : c.in_ok-number.number < length c.resize.new.self.items = omega (arith, at.0, c.len.ensures.value, c.in_ok-resize.ensures.len) in
    let count = c.index_mut.ensures.value ∙ get_or_default_zero c.resize.new.self.items c.in_ok-number.number c.index_mut.result.now within ∙ counted c.in_ok-number.number in
    let size = length-set c.resize.new.self.items c.in_ok-number.number (c.index_mut.result.now + 1) in (
      omega (arith, size, c.len.ensures.value, c.in_ok-resize.ensures.len),
      rw c.in_ok-push.ensures.items (counted_pushed c.resize.new.self.items c.self.inside.numbers.items c.in_ok-number.number c.index_mut.result.now counted within count),
    )

pub returns-clause-ok : goal.returns-clause-ok
returns-clause-ok c =
    let below = counted_below c.self.inside.counts.items c.self.inside.numbers.items (length c.self.inside.table) c.self.invariant.1 c.self.invariant.0 in
    let same = lits_same c.self.inside.table c.args.lit c.self.inside.numbers.items below in
    let at = index_at c.number.new.self c.args.lit no_lit c.in_ok-number.number c.in_ok-number.ensures.number in
    let old : map (lit_at c.number.new.self) c.self.inside.numbers.items ≡ c.args.self.now = rw c.in_ok-number.ensures.ok (same ∙ c.self.view_is) in
    ap (map (lit_at c.number.new.self)) c.in_ok-push.ensures.items
    ∙ map-append (lit_at c.number.new.self) c.self.inside.numbers.items (c.in_ok-number.number ∷ [])
    ∙ (λ i. old i ++ at.1 i ∷ [])
