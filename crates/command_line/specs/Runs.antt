-- What a run is: the main statements on the top call.
use Rattle.std.specs.Prelude.{◌≡◌, ◌≢◌, ℕ, List, [], Option, Some, None, ◌⊎◌, IfSome}
use Rattle.mg_outside.specs.Causes.{Rose}
use Rattle.mg_outside.specs.Counting.{Counts, SomeFailed}
use Rattle.mg_outside.specs.Putting.{SinkSeen}
use Rattle.mg_outside.specs.Reading.{Table}
use Rattle.mg_word.specs.Facts.{ProblemData}
use Rattle.command_words.specs.Asking.{Request, Prove, Models, Check, Forms, Sample}
use Rattle.szs_report.specs.declared.check.CheckAnswer.TheVariants.{Accepted}
use Rattle.tree_board.specs.Alone.{FitsPlain}
use Rattle.tree_board.specs.Searches.{setting_of}
use Rattle.tree_board.specs.declared.mode.Limits.{Limits}
use Rattle.command_line.specs.Checks.{IsChecked}
use Rattle.command_line.specs.Printing.{Prints, IsWhole}
use Rattle.command_line.specs.Problems.{IsProblemOf}
use Rattle.command_line.specs.Refusals.{memory_printout}
use Rattle.command_line.specs.Replies.{Reply, IsReplyTo, IsRightReply, HasCause, IsCounted, reply_name, printout_of}
use Rattle.command_line.specs.Searched.{search_of}
use Rattle.command_line.specs.Sources.{OfFile}
use Rattle.command_line.specs.Statuses.{code}
use Rattle.command_line.specs.Wanted.{AsksOne, limits_of, source_of}
use Rattle.command_line.specs.declared.printout.Printout.{Printout}
use Rattle.command_line.specs.declared.status.Status.TheVariants.{Done, Failed, MemoryOut}

-- what the outside tells and counts: the files and their counts, the output and the messages
pub record Outside : Type 0 where
  pub told : Option Table
  pub counts : Counts
  pub out : SinkSeen
  pub err : SinkSeen

-- what these files, this output and these messages tell and count
abbrev pub outside_of : {F O E : Type 0} → (F → Option Table) → (F → Counts) → (O → SinkSeen) → (E → SinkSeen) → F → O → E → Outside
outside_of table counts output messages files out err = record { told = table files; counts = counts files; out = output out; err = messages err }

-- the reply is printed, or that memory ran out in its place
abbrev pub PrintsReply : Reply → Outside → Outside → ℕ → Type 0
PrintsReply reply before now status =
    Prints (printout_of reply) before.out now.out before.err now.err status ⊎ Prints (memory_printout (reply_name reply)) before.out now.out before.err now.err status

-- the words were read, and what is printed is a reply to them that has its cause, or that memory ran out
pub record IsReplied (words : List (List ℕ)) (before now : Outside) (status : ℕ) : Type 0 where
  pub reply : Reply
  pub to : IsReplyTo words reply
  pub cause : HasCause before.told reply
  pub counted : IsCounted reply before.counts now.counts
  pub printed : PrintsReply reply before now status

-- memory ran out before the words were read: no file was, and the lines have no name
pub record LosesWords (before now : Outside) (status : ℕ) : Type 0 where
  pub counted : now.counts ≡ before.counts
  pub printed : Prints (memory_printout None) before.out now.out before.err now.err status

-- the words were read and replied to, or memory ran out before that
abbrev pub Runs : List (List ℕ) → Outside → Outside → ℕ → Type 0
Runs words before now status = IsReplied words before now status ⊎ LosesWords before now status

-- no read and no put failed
pub record NoneFailed (before now : Outside) : Type 0 where
  pub reads : SomeFailed before.counts now.counts → ⊥
  pub output : Rose before.out.faults now.out.faults → ⊥
  pub messages : Rose before.err.faults now.err.faults → ⊥

-- all of the printout was put, and its status is that of the run
abbrev pub IsPrinted : Printout → Outside → Outside → ℕ → Type 0
IsPrinted printout before now status = IsWhole printout before.out now.out before.err now.err status

-- the plain tree of the problem fits the limits of a search
abbrev pub Fits : ProblemData → Limits → Type 0
Fits problem limits = FitsPlain (setting_of (search_of problem limits []))

-- in these files one answer is right: that of a search is where the plain tree of its problem fits the limits, and may else be that it gives up
-- as well as any other that is right
abbrev pub IsDetermined : Table → Request → Type 0
IsDetermined files request = IfSome (limits_of request) (λ limits. (problem : ProblemData) → IsProblemOf (Some files) (source_of request) problem → Fits problem limits)

-- so it is with what the words ask for
abbrev pub AreDetermined : List (List ℕ) → Table → Type 0
AreDetermined words files = (request : Request) → AsksOne words request → IsDetermined files request

-- that memory ran out is printed, with the name of the problem or, before the words were read, without it
abbrev pub RanOut : Option (List ℕ) → Outside → Outside → ℕ → Type 0
RanOut name before now status = IsPrinted (memory_printout name) before now status ⊎ IsPrinted (memory_printout None) before now status

-- where the files are told and determine the answer, and no read and no put failed, every reply that is right is the one that is printed, unless
-- memory ran out
abbrev pub IsOnly : List (List ℕ) → Outside → Outside → ℕ → Type 0
IsOnly words before now status =
    (files : Table) → before.told ≡ Some files → AreDetermined words files → NoneFailed before now → (reply : Reply) → IsRightReply words files reply
    → IsPrinted (printout_of reply) before now status ⊎ RanOut (reply_name reply) before now status

-- a put failed, by the counts
abbrev pub SomePutFailed : Outside → Outside → Type 0
SomePutFailed before now = (now.out.faults ≢ before.out.faults) ⊎ (now.err.faults ≢ before.err.faults)

-- the status of a failure comes where the count of a sink moved, and, unless memory ran out, where that of the files did; where none of the three
-- rose it does not come
pub record IsFailure (before now : Outside) (status : ℕ) : Type 0 where
  pub put : SomePutFailed before now → status ≡ code Failed
  pub read : now.counts.faults ≢ before.counts.faults → (status ≡ code Failed) ⊎ (status ≡ code MemoryOut)
  pub cause : status ≡ code Failed → NoneFailed before now → ⊥

-- the problem is there, and where it is searched for its plain tree fits the limits
pub record IsThere (files : Table) (request : Request) : Type 0 where
  pub problem : ProblemData
  pub is : IsProblemOf (Some files) (source_of request) problem
  pub fits : IfSome (limits_of request) (Fits problem)

-- what is asked for is in these files: a document that is accepted, or a problem whose plain tree fits the limits of its search
abbrev pub Succeeds : Table → Request → Type 0
Succeeds files (Prove search) = IsThere files (Prove search)
Succeeds files (Models search) = IsThere files (Models search)
Succeeds files (Check file tree root) = IsChecked (Some files) (OfFile file root) tree Accepted
Succeeds files (Forms file root) = IsThere files (Forms file root)
Succeeds files (Sample size workers budget) = IsThere files (Sample size workers budget)

-- where the files are told and have what is asked for, and nothing failed, the run succeeds, but for want of memory
abbrev pub IsExact : List (List ℕ) → Outside → Outside → ℕ → Type 0
IsExact words before now status =
    (request : Request) → AsksOne words request → (files : Table) → before.told ≡ Some files → Succeeds files request → NoneFailed before now → (status ≡ code Done) ⊎ (status ≡ code MemoryOut)
