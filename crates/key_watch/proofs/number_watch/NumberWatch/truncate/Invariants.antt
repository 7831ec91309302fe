use Rattle.std.proofs.Common.{◌≡◌, length, take}
use Rattle.key_watch.proofs.number_watch.NumberWatch.truncate.Given as goal

abbrev pub invariant-loop-self : goal.invariant-loop-self
invariant-loop-self l = record l.self { path = take l.len l.self.path } ≡ record l.fn.self { path = take l.len l.fn.self.path }

abbrev pub decreases-loop-self : goal.decreases-loop-self
decreases-loop-self l = length l.self.path
