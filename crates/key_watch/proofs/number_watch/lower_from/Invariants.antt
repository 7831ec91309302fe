use Rattle.std.proofs.Common.{◌≡◌, length}
use Rattle.key_watch.proofs.Lowering.{AreLoweredBelow}
use Rattle.key_watch.proofs.number_watch.lower_from.Given as goal

abbrev pub invariant-loop-index : goal.invariant-loop-index
invariant-loop-index l = record {
  lowered : AreLoweredBelow l.fn.leasts.items l.since l.owner l.index l.leasts.items;
  sized : length l.leasts.items ≡ length l.fn.leasts.items;
}
