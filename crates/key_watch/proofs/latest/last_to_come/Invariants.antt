use Rattle.std.proofs.Common.{take}
use Rattle.key_watch.specs.Watching.{IsWaiting}
use Rattle.key_watch.proofs.latest.last_to_come.Given as goal

abbrev pub invariant-loop-key : goal.invariant-loop-key
invariant-loop-key l = IsWaiting l.places (take l.key-index l.keys) l.last
