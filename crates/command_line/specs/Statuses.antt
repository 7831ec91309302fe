-- The exit statuses.
use Rattle.std.specs.Prelude.{ℕ}
use Rattle.command_line.specs.declared.status.Status.{Status}
use Rattle.command_line.specs.declared.status.Status.TheVariants.{Done, Rejected, Refused, Failed, MemoryOut, WordsWithheld}

-- the number that the process ends with
abbrev pub code : Status → ℕ
code Done = 0
code Rejected = 1
code Refused = 2
code Failed = 3
code MemoryOut = 4
code WordsWithheld = 5
