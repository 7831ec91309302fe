use Rattle.std.proofs.Common.{◌-◌, ◌≡◌, length}
use Rattle.key_watch.specs.Arriving.{IsVisiting}
use Rattle.key_watch.specs.Watching.{chain_of}
use Rattle.key_watch.proofs.arrivals.arrivals.Given as goal

abbrev pub invariant-visits : goal.invariant-visits
invariant-visits l = (length l.chains.items ≡ length l.fn.chains.items) × IsVisiting l.sets l.waits.items l.chains.items l.places l.key l.at l.fn.least l.least

abbrev pub decreases-visits : goal.decreases-visits
decreases-visits l = length (chain_of l.chains.items l.key) - l.at
