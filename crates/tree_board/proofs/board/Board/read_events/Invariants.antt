use Rattle.std.proofs.Common.{◌≡◌, ◌-◌, length}
use Rattle.tree_board.specs.Paths.{LeadsTo}
use Rattle.tree_board.proofs.board.Board.read_events.Given as goal

abbrev pub invariant-events : goal.invariant-events
invariant-events l = record { leads : LeadsTo l.self l.path; node : l.path.node ≡ l.fn.path.node; lemmas : l.path.lemmas_read ≡ l.fn.path.lemmas_read }

abbrev pub decreases-events : goal.decreases-events
decreases-events l = length l.self.journal - l.path.events_read
