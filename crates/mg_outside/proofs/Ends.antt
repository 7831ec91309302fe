-- Reads one after another: what their counts say together.
use Rattle.std.proofs.Common.{◌≡◌, ◌≢◌, ℕ, ◌≤◌, ◌∙◌, refl, ap, subst, arith}
use Rattle.mg_outside.specs.Causes.{Rose, one_more}
use Rattle.mg_outside.specs.Counting.{Counts, OnlyAbsences, ReadsEnd, CallEnds, SomeFailed, counted}
use Rattle.mg_outside.specs.declared.files.ReadAnswer.{ReadAnswer}
use Rattle.mg_outside.specs.declared.files.ReadAnswer.TheVariants.{Done, Absent, TooLong, Failed, NoMemory}

-- no read counts nothing
pub none_counted : (counts : Counts) → OnlyAbsences counts counts
none_counted counts = record { faults = refl; absences = omega arith; overruns = refl }

-- one read
pub ends_at_once : (answer : ReadAnswer) (before now : Counts) → now ≡ counted answer before → ReadsEnd answer before now
ends_at_once answer before now last = record { between = before; earlier = none_counted before; last = last }

one_more_later : (count : ℕ) → count ≤ one_more count
one_more_later count = omega arith

-- a read that found its file, or no file, or ran out of memory
pub counts_absences : (answer : ReadAnswer) (before now : Counts) → answer ≢ TooLong → answer ≢ Failed → now ≡ counted answer before → OnlyAbsences before now
counts_absences Done before now short fine last = rw last (none_counted before)
counts_absences Absent before now short fine last = rw last (record { faults = refl; absences = one_more_later before.absences; overruns = refl })
counts_absences TooLong before now short fine last = absurd (short refl)
counts_absences Failed before now short fine last = absurd (fine refl)
counts_absences NoMemory before now short fine last = rw last (none_counted before)

-- reads, and further reads
pub absences_after : (before between now : Counts) → OnlyAbsences before between → OnlyAbsences between now → OnlyAbsences before now
absences_after before between now first second = record { faults = second.faults ∙ first.faults; absences = omega arith; overruns = second.overruns ∙ first.overruns }

-- reads, and further reads of which the last answered so
pub ends_after : (answer : ReadAnswer) (before between now : Counts) → OnlyAbsences before between → ReadsEnd answer between now → ReadsEnd answer before now
ends_after answer before between now first second =
    record { between = second.between; earlier = absences_after before between second.between first second.earlier; last = second.last }

-- reads whose last found its file, or no file, or ran out of memory
pub ends_in_absences : (answer : ReadAnswer) (before now : Counts) → answer ≢ TooLong → answer ≢ Failed → ReadsEnd answer before now → OnlyAbsences before now
ends_in_absences answer before now short fine reads = absences_after before reads.between now reads.earlier (counts_absences answer reads.between now short fine reads.last)

-- reads of which the last did not fail counted no fault
pub none_failed : (answer : ReadAnswer) (before now : Counts) → answer ≢ Failed → ReadsEnd answer before now → now.faults ≡ before.faults
none_failed Done before now fine reads = ap (λ counts. counts.faults) reads.last ∙ reads.earlier.faults
none_failed Absent before now fine reads = ap (λ counts. counts.faults) reads.last ∙ reads.earlier.faults
none_failed TooLong before now fine reads = ap (λ counts. counts.faults) reads.last ∙ reads.earlier.faults
none_failed Failed before now fine reads = absurd (fine refl)
none_failed NoMemory before now fine reads = ap (λ counts. counts.faults) reads.last ∙ reads.earlier.faults

-- what each answer counts
pub absent_counted : (before now : Counts) → now ≡ counted Absent before → Rose before.absences now.absences
absent_counted before now last = rw last (omega arith)

pub too_long_counted : (before now : Counts) → now ≡ counted TooLong before → Rose before.overruns now.overruns
too_long_counted before now last = rw last (omega arith)

pub failed_counted : (before now : Counts) → now ≡ counted Failed before → SomeFailed before now
failed_counted before now last = rw last (omega arith)

-- the same of the last of some reads
pub absent_last : (before now : Counts) → ReadsEnd Absent before now → Rose before.absences now.absences
absent_last before now reads =
    let rose : Rose reads.between.absences now.absences = absent_counted reads.between now reads.last in
    let earlier : before.absences ≤ reads.between.absences = reads.earlier.absences in omega arith

pub too_long_last : (before now : Counts) → ReadsEnd TooLong before now → Rose before.overruns now.overruns
too_long_last before now reads = subst (λ count. Rose count now.overruns) reads.earlier.overruns (too_long_counted reads.between now reads.last)

pub failed_last : (before now : Counts) → ReadsEnd Failed before now → SomeFailed before now
failed_last before now reads = subst (λ count. Rose count now.faults) reads.earlier.faults (failed_counted reads.between now reads.last)

-- reads that found their files, or no file
pub quiet_ends : (before now : Counts) → OnlyAbsences before now → ReadsEnd Done before now
quiet_ends before now quiet = record { between = now; earlier = quiet; last = refl }

-- the reads of a call are those of its answer
pub call_ends : (answer : ReadAnswer) (before now : Counts) → ReadsEnd answer before now → CallEnds answer before now
call_ends Done before now ends = ends
call_ends Absent before now ends = ends
call_ends TooLong before now ends = ends
call_ends Failed before now ends = ends
call_ends NoMemory before now ends = (NoMemory, ends)

-- reads, and then a call
pub call_after : (answer : ReadAnswer) (before between now : Counts) → OnlyAbsences before between → CallEnds answer between now → CallEnds answer before now
call_after Done before between now first call = ends_after Done before between now first call
call_after Absent before between now first call = ends_after Absent before between now first call
call_after TooLong before between now first call = ends_after TooLong before between now first call
call_after Failed before between now first call = ends_after Failed before between now first call
call_after NoMemory before between now first (last, ends) = (last, ends_after last before between now first ends)
