use Rattle.std.proofs.Common.{arith, length, subst, sym, ◌∙◌, ◌+◌, ◌<◌, Some, refl, slice_set}
use Rattle.key_watch.proofs.Lowering.{AreLoweredBelow, all_lowered, lowered_more, none_lowered}
use Rattle.key_watch.proofs.Membership.{length-slice_set}
use Rattle.key_watch.proofs.number_watch.lower_from.Goals as goal

pub loop-index-init : goal.loop-index-init
loop-index-init c = record { lowered = none_lowered c.args.leasts.now.items c.args.since c.args.owner; sized = refl }

pub loop-index-preserved : goal.loop-index-preserved
loop-index-preserved c =
    let inside : c.loop-index.index < length c.loop-index.leasts.items = omega (arith, c.loop-index.invariant.sized) in
    record {
      lowered = subst (λ owner. AreLoweredBelow c.args.leasts.now.items c.args.since c.args.owner (c.loop-index.index + 1) (slice_set c.loop-index.leasts.items c.loop-index.index (Some owner))) (sym c.least_with.ensures)
          (lowered_more c.args.leasts.now.items c.loop-index.leasts.items c.args.since c.loop-index.index c.args.owner c.loop-index.invariant.lowered inside c.loop-index.auto.index c.index.result.now c.index.ensures);
      sized = length-slice_set c.loop-index.leasts.items c.loop-index.index (Some c.least_with.result) ∙ c.loop-index.invariant.sized;
    }

pub returns-clause-lowered : goal.returns-clause-lowered
returns-clause-lowered c = all_lowered c.args.leasts.now.items c.loop-index.leasts.items c.args.since c.loop-index.index c.args.owner c.loop-index.invariant.lowered (omega arith)
