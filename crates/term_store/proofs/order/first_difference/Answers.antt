use Rattle.std.proofs.Common.{drop, slice_index, inl, inr, arith}
use Rattle.term_store.proofs.Numbers.{get_or_same}
use Rattle.term_store.proofs.Differings.{front_of_first, front_of_second, differ_at}
use Rattle.term_store.proofs.order.first_difference.Goals as goal

pub returns-then-place-those : goal.returns-then-place-those
returns-then-place-those c = (drop c.loop-place.place c.args.these.now, inl (front_of_first c.args.these.now c.args.those.now c.loop-place.place (omega arith) c.loop-place.invariant.1))

pub returns-then-number-those : goal.returns-then-number-those
returns-then-number-those c =
    let x = slice_index c.args.these.now c.loop-place.place in
    let y = slice_index c.args.those.now c.loop-place.place in
    differ_at c.args.these.now c.args.those.now c.loop-place.place x y (omega arith) (omega arith) c.loop-place.invariant.1
    (get_or_same c.args.these.now c.loop-place.place 0 x (omega arith)) (get_or_same c.args.those.now c.loop-place.place 0 y (omega arith)) c.if-number-those.true

pub returns : goal.returns
returns c = (drop c.loop-place.place c.args.those.now, inr (front_of_second c.args.these.now c.args.those.now c.loop-place.place (omega arith) c.loop-place.invariant.1))
