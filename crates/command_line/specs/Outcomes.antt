-- What the outcome of a search is seen as.
use Rattle.command_line.specs.Proves.{Proved}
use Rattle.command_line.specs.declared.prove.Outcome.{Outcome}

-- its problem, and what it ends with
abbrev pub proved_by : Outcome → Proved
proved_by outcome = record { problem = outcome.board.problem; finding = outcome.finding }
