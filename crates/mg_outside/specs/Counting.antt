-- What reads count: each its own answer alone.
use Rattle.std.specs.Prelude.{◌≡◌, ℕ, ◌≤◌}
use Rattle.mg_outside.specs.Causes.{Rose, one_more}
use Rattle.mg_outside.specs.declared.files.ReadAnswer.{ReadAnswer}
use Rattle.mg_outside.specs.declared.files.ReadAnswer.TheVariants.{Done, Absent, TooLong, Failed, NoMemory}

-- how many reads failed, how many found no file, and how many found more bytes than were allowed
pub record Counts : Type 0 where
  pub faults : ℕ
  pub absences : ℕ
  pub overruns : ℕ

-- the counts before the first read
abbrev pub no_counts : Counts
no_counts = record { faults = 0; absences = 0; overruns = 0 }

-- the counts with this answer counted; a whole file and want of memory are not counted
abbrev pub counted : ReadAnswer → Counts → Counts
counted Done counts = counts
counted Absent counts = record counts { absences = one_more counts.absences }
counted TooLong counts = record counts { overruns = one_more counts.overruns }
counted Failed counts = record counts { faults = one_more counts.faults }
counted NoMemory counts = counts

-- reads each of which found its file, or no file, or ran out of memory
pub record OnlyAbsences (before now : Counts) : Type 0 where
  pub faults : now.faults ≡ before.faults
  pub absences : before.absences ≤ now.absences
  pub overruns : now.overruns ≡ before.overruns

-- reads of which the last answered so, and none before it failed or found too long a file
pub record ReadsEnd (answer : ReadAnswer) (before now : Counts) : Type 0 where
  pub between : Counts
  pub earlier : OnlyAbsences before between
  pub last : now ≡ counted answer between

-- the reads of a call that answers so; one that runs out of memory may do so behind any of its reads
abbrev pub CallEnds : ReadAnswer → Counts → Counts → Type 0
CallEnds NoMemory before now = (last : ReadAnswer) × ReadsEnd last before now
CallEnds answer before now = ReadsEnd answer before now

-- a read failed, as far as the counts tell
abbrev pub SomeFailed : Counts → Counts → Type 0
SomeFailed before now = Rose before.faults now.faults
