-- What follows of a run: that told files have one outcome, when it is a failure, and when it succeeds.
use Rattle.std.proofs.Common.{◌≡◌, ◌≢◌, ℕ, List, Option, Some, None, refl, sym, ap, ◌∙◌, subst, inl, inr, ◌⊎◌, arith}
use Rattle.mg_outside.specs.Causes.{Rose, one_more}
use Rattle.mg_outside.specs.Counting.{Counts, CallEnds, SomeFailed}
use Rattle.mg_outside.specs.Putting.{SinkSeen}
use Rattle.mg_outside.specs.Reading.{Table}
use Rattle.mg_outside.specs.declared.files.ReadAnswer.{ReadAnswer}
use Rattle.mg_outside.specs.declared.files.ReadAnswer.TheVariants.{Done as ReadDone, Absent as ReadAbsent, TooLong as ReadTooLong, Failed as ReadFailed, NoMemory as ReadNoMemory}
use Rattle.mg_outside.proofs.Ends.{none_failed, failed_last}
use Rattle.cnf_reader.specs.Reading.{kind_read}
use Rattle.cnf_reader.specs.declared.fault.ReadKind.{ReadKind}
use Rattle.cnf_reader.specs.declared.fault.ReadKind.TheVariants.{Files, ProblemAbsent, IncludeAbsent, TooLong}
use Rattle.cnf_reader.specs.declared.fault.ReadFault.TheVariants.{At, NoMemory as NoMemoryToRead}
use Rattle.mg_word.specs.Facts.{ProblemData}
use Rattle.command_words.specs.Asking.{Request, Prove, Models, Check, Forms, Sample}
use Rattle.szs_report.specs.Names.{name_of}
use Rattle.szs_report.specs.declared.check.CheckAnswer.{CheckAnswer}
use Rattle.szs_report.specs.declared.check.CheckAnswer.TheVariants.{Accepted, Rejected, Unread as UnreadTree}
use Rattle.tree_board.specs.Alone.{FitsPlain}
use Rattle.tree_board.specs.Searches.{Search, setting_of}
use Rattle.tree_board.specs.declared.mode.Limit.{Limit}
use Rattle.tree_board.specs.declared.mode.Limits.{Limits}
use Rattle.command_line.specs.Checks.{check_status}
use Rattle.command_line.specs.Listed.{Listed, IsListed, listed_status}
use Rattle.command_line.specs.Printing.{Prints, IsWhole}
use Rattle.command_line.specs.Problems.{IsProblemOf}
use Rattle.command_line.specs.Proves.{Proved, IsProved, finding_status, prove_printout}
use Rattle.command_line.specs.Refusals.{Refusal, Unread, Unformed, TreeAbsent, TreeFailed, MemoryOut, IsRefusal, refusal_read, read_status, memory_printout}
use Rattle.command_line.specs.Replies.{Reply, Usage, Answered, Refused, Answer, AreCounted, IsAnswer, IsReplyTo, IsRightReply, HasCause, IsCounted, answer_printout, reply_read, reply_name, printout_of}
use Rattle.command_line.specs.Runs.{AreDetermined, Fits, IsDetermined, IsReplied, IsThere, LosesWords, Outside, Runs, NoneFailed, IsPrinted, IsOnly, IsFailure, IsExact, RanOut, SomePutFailed}
use Rattle.command_line.specs.Searched.{EndsWith, search_of}
use Rattle.command_line.specs.Sources.{Source, OfFile, OfSample, IsFaultOf, source_name}
use Rattle.command_line.specs.Statuses.{code}
use Rattle.command_line.specs.Wanted.{AsksOne, sample_limits, search_limits, searched_file, source_of, tree_file}
use Rattle.command_line.specs.declared.finding.Finding.{Finding}
use Rattle.command_line.specs.declared.finding.Finding.TheVariants.{Unsatisfiable, Satisfiable, GaveUp}
use Rattle.command_line.specs.declared.printout.Printout.{Printout}
use Rattle.command_line.specs.declared.status.Status.TheVariants.{Failed}
use Rattle.command_line.proofs.OneListing.{listed_whole}
use Rattle.command_line.proofs.OneReply.{one_asked, one_problem_of, one_reply, refused_not, shown}

put_rose : (before now : ℕ) → now ≡ one_more before → Rose before now
put_rose before now is = rw is (omega arith)

-- where no put failed all was put
whole : (printout : Printout) (out out' err err' : SinkSeen) (status : ℕ) → Prints printout out out' err err' status → (Rose out.faults out'.faults → ⊥) → (Rose err.faults err'.faults → ⊥) → IsWhole printout out out' err err' status
whole printout out out' err err' status (inl all) quiet silent = all
whole printout out out' err err' status (inr (inl failed)) quiet silent = absurd (quiet (put_rose out.faults out'.faults failed.lines.counted))
whole printout out out' err err' status (inr (inr failed)) quiet silent = absurd (silent (put_rose err.faults err'.faults failed.messages.counted))

-- the lines of replies to the same words have one name
one_name : (words : List (List ℕ)) (a b : Reply) → IsReplyTo words a → IsReplyTo words b → reply_name a ≡ reply_name b
one_name words Usage Usage p q = refl
one_name words Usage (Answered s b) p q = absurd (p s q)
one_name words Usage (Refused s b) p q = absurd (p s q)
one_name words (Answered r a) Usage p q = absurd (q r p)
one_name words (Refused r a) Usage p q = absurd (q r p)
one_name words (Answered r a) (Answered s b) p q = ap (λ one. Some (source_name (source_of one))) (one_asked words r s p q)
one_name words (Answered r a) (Refused s b) p q = ap (λ one. Some (source_name (source_of one))) (one_asked words r s p q)
one_name words (Refused r a) (Answered s b) p q = ap (λ one. Some (source_name (source_of one))) (one_asked words r s p q)
one_name words (Refused r a) (Refused s b) p q = ap (λ one. Some (source_name (source_of one))) (one_asked words r s p q)

done_known : ReadDone ≡ ReadNoMemory → ⊥
done_known same = cc

kind_known : (kind : ReadKind) → kind_read kind ≢ ReadNoMemory
kind_known Files same = cc
kind_known ProblemAbsent same = cc
kind_known IncludeAbsent same = cc
kind_known TooLong same = cc
kind_known kind same = done_known same

-- a reply that has its cause is not want of memory, or it prints that
known : (told : Option Table) (reply : Reply) → HasCause told reply → (reply_read reply ≢ ReadNoMemory) ⊎ (printout_of reply ≡ memory_printout (reply_name reply))
known told Usage cause = inl (λ same. done_known same)
known told (Answered request answer) cause = inl (λ same. done_known same)
known told (Refused request (Unread (At kind file line column subject))) cause = inl (kind_known kind)
known told (Refused request (Unread NoMemoryToRead)) cause = absurd (cause.some refl)
known told (Refused request (Unformed input fault)) cause = inl (λ same. done_known same)
known told (Refused request (TreeAbsent tree)) cause = inl absent
  where
    absent : ReadAbsent ≡ ReadNoMemory → ⊥
    absent same = cc
known told (Refused request (TreeFailed tree)) cause = inl failed
  where
    failed : ReadFailed ≡ ReadNoMemory → ⊥
    failed same = cc
known told (Refused request MemoryOut) cause = inr refl

-- the reads of a reply that came from a failed one are counted as such
source_failed : (source : Source) (answer : ReadAnswer) (before now : Counts) → AreCounted source answer before now → answer ≡ ReadFailed → ((size : ℕ) → source ≡ OfSample size → ⊥) → SomeFailed before now
source_failed (OfFile file root) answer before now counted failed file_read = failed_last before now (subst (λ answer. CallEnds answer before now) failed counted)
source_failed (OfSample size) answer before now counted failed file_read = absurd (file_read size refl)

no_tree : (request : Request) (tree : List ℕ) (size : ℕ) → tree_file request ≡ Some tree → source_of request ≡ OfSample size → ⊥
no_tree (Prove search) tree size named is = cc
no_tree (Models search) tree size named is = cc
no_tree (Check file own root) tree size named is = cc
no_tree (Forms file root) tree size named is = cc
no_tree (Sample own workers budget) tree size named is = cc

-- a refusal behind a failed read is not that of a sample
file_failed : (request : Request) (told : Option Table) (refusal : Refusal) → IsRefusal request told refusal → refusal_read refusal ≡ ReadFailed → (size : ℕ) → source_of request ≡ OfSample size → ⊥
file_failed request told (Unread fault) cause failed size is = subst (λ source. IsFaultOf told source fault) is cause.stands
file_failed request told (Unformed input fault) cause failed size is = cc
file_failed request told (TreeAbsent tree) cause failed size is = cc
file_failed request told (TreeFailed tree) cause failed size is = no_tree request tree size cause.named is
file_failed request told MemoryOut cause failed size is = cc

read_failed : (told : Option Table) (reply : Reply) (before now : Counts) → HasCause told reply → IsCounted reply before now → reply_read reply ≡ ReadFailed → SomeFailed before now
read_failed told Usage before now cause counted failed = cc
read_failed told (Answered request answer) before now cause counted failed = cc
read_failed told (Refused request refusal) before now cause counted failed = source_failed (source_of request) (refusal_read refusal) before now counted failed (file_failed request told refusal cause failed)

-- the reply is right and was printed, or that memory ran out
data RightOrOut (words : List (List ℕ)) (files : Table) (before now : Outside) (status : ℕ) (reply : Reply) : Type 0 where
  right_printed : IsRightReply words files reply → IsPrinted (printout_of reply) before now status → RightOrOut words files before now status reply
  memory_printed : IsPrinted (memory_printout (reply_name reply)) before now status → RightOrOut words files before now status reply

-- where the files are told and nothing failed
right_or_out : (words : List (List ℕ)) (before now : Outside) (status : ℕ) (runs : IsReplied words before now status) (files : Table) → before.told ≡ Some files → NoneFailed before now → RightOrOut words files before now status runs.reply
right_or_out words before now status runs files told none = by runs.printed
  where
    cause : HasCause (Some files) runs.reply
    cause = subst (λ one. HasCause one runs.reply) told runs.cause

    one : IsPrinted (printout_of runs.reply) before now status → (reply_read runs.reply ≢ ReadNoMemory) ⊎ (printout_of runs.reply ≡ memory_printout (reply_name runs.reply)) → RightOrOut words files before now status runs.reply
    one printed (inl enough) = right_printed (record { to = runs.to; cause = cause; whole = λ failed. none.reads (read_failed before.told runs.reply before.counts now.counts runs.cause runs.counted failed); enough = enough }) printed
    one printed (inr memory_out) = memory_printed (subst (λ printout. IsPrinted printout before now status) memory_out printed)

    by : Prints (printout_of runs.reply) before.out now.out before.err now.err status ⊎ Prints (memory_printout (reply_name runs.reply)) before.out now.out before.err now.err status → RightOrOut words files before now status runs.reply
    by (inl prints) = one (whole (printout_of runs.reply) before.out now.out before.err now.err status prints none.output none.messages) (known (Some files) runs.reply cause)
    by (inr prints) = memory_printed (whole (memory_printout (reply_name runs.reply)) before.out now.out before.err now.err status prints none.output none.messages)

-- memory ran out before the words were read, and no put failed
lost_printed : (before now : Outside) (status : ℕ) → LosesWords before now status → NoneFailed before now → IsPrinted (memory_printout None) before now status
lost_printed before now status lost none = whole (memory_printout None) before.out now.out before.err now.err status lost.printed none.output none.messages

-- of told files that determine the answer one reply is printed
pub only : (words : List (List ℕ)) (before now : Outside) (status : ℕ) → Runs words before now status → IsOnly words before now status
only words before now status (inr lost) files told determined none reply right = inr (inr (lost_printed before now status lost none))
only words before now status (inl runs) files told determined none reply right = by (right_or_out words before now status runs files told none)
  where
    by : RightOrOut words files before now status runs.reply → IsPrinted (printout_of reply) before now status ⊎ RanOut (reply_name reply) before now status
    by (right_printed own printed) = inl (subst (λ one. IsPrinted (printout_of one) before now status) (one_reply files words determined runs.reply reply own right) printed)
    by (memory_printed printed) = inr (inl (subst (λ name. IsPrinted (memory_printout name) before now status) (one_name words runs.reply reply runs.to right.to) printed))

memory_code : (name : Option (List ℕ)) → code (memory_printout name).status ≡ 4
memory_code None = refl
memory_code (Some name) = refl

-- where the words ask for one command, that is the only one
asked : (words : List (List ℕ)) (files : Table) (request : Request) → AsksOne words request → IsDetermined files request → AreDetermined words files
asked words files request asks is other asks' = subst (IsDetermined files) (one_asked words request other asks asks') is

-- a search whose plain tree fits the limits does not give up
fitting_status : (search : Search) (finding : Finding) → FitsPlain (setting_of search) → EndsWith search finding → code (finding_status finding) ≡ 0
fitting_status search (Unsatisfiable doc) fits ends = refl
fitting_status search (Satisfiable set) fits ends = refl
fitting_status search (GaveUp limit) fits ends = absurd (ends.exceeds fits)

module _ (files : Table) where
  proved_status : (source : Source) (limits : Limits) (name : List ℕ) (problem : ProblemData) → IsProblemOf (Some files) source problem → Fits problem limits
      → (answer : Proved) → IsProved (Some files) source limits answer → code (prove_printout name limits answer).status ≡ 0
  proved_status source limits name problem there fits answer is =
      let same : problem ≡ answer.problem = one_problem_of files source problem answer.problem there is.is in
      fitting_status (search_of answer.problem limits is.journal) answer.finding (subst (λ one. Fits one limits) same fits) is.found.ends

  listed_status_0 : (source : Source) (limits : Limits) (problem : ProblemData) → IsProblemOf (Some files) source problem → Fits problem limits
      → (answer : Listed) → IsListed (Some files) source limits answer → code (listed_status answer.gave_up) ≡ 0
  listed_status_0 source limits problem there fits answer is =
      let same : problem ≡ answer.problem = one_problem_of files source problem answer.problem there is.is in
      ap (λ gave_up. code (listed_status gave_up)) (listed_whole answer.problem limits is.journal answer.sets answer.gave_up (subst (λ one. Fits one limits) same fits) is.lists)

  -- the status of a right answer, where the problem is there and its plain tree fits the limits; no tree is asked for
  there_status : (request : Request) → IsThere files request → tree_file request ≡ None → (answer : Answer request) → IsAnswer request (Some files) answer → code (answer_printout request answer).status ≡ 0
  there_status (Prove search) there none answer is = proved_status (searched_file search) (search_limits search) (name_of search.file) there.problem there.is there.fits answer is
  there_status (Models search) there none answer is = listed_status_0 (searched_file search) (search_limits search) there.problem there.is there.fits answer is
  there_status (Check file tree root) there none answer is = cc
  there_status (Forms file root) there none answer is = refl
  there_status (Sample size workers budget) there none answer is = listed_status_0 (OfSample size) (sample_limits budget) there.problem there.is there.fits answer is

  -- the right reply to the words succeeds there
  reply_status : (words : List (List ℕ)) (request : Request) → AsksOne words request → IsThere files request → tree_file request ≡ None → (reply : Reply) → IsRightReply words files reply → code (printout_of reply).status ≡ 0
  reply_status words request asks there none Usage right = absurd (right.to request asks)
  reply_status words request asks there none (Answered other answer) right =
      subst (λ one. (answer : Answer one) → IsAnswer one (Some files) answer → code (answer_printout one answer).status ≡ 0) (one_asked words request other asks right.to) (there_status request there none) answer right.cause
  reply_status words request asks there none (Refused other refusal) right =
      let same : other ≡ request = one_asked words other request right.to asks in
      absurd (refused_not files request there.problem refusal there.is (λ tree named absent. no_name (tree_file request) tree none named)
      (shown files request refusal (subst (λ one. IsRefusal one (Some files) refusal) same right.cause) right.whole right.enough))
    where
      no_name : (named : Option (List ℕ)) (tree : List ℕ) → named ≡ None → named ≡ Some tree → ⊥
      no_name named tree none is = cc

-- a run that asks for a problem that is there succeeds
module _ (words : List (List ℕ)) (before now : Outside) (status : ℕ) where
  there_exact : Runs words before now status → (request : Request) → AsksOne words request → (files : Table) → before.told ≡ Some files → IsThere files request → tree_file request ≡ None → NoneFailed before now → (status ≡ 0) ⊎ (status ≡ 4)
  there_exact (inr lost) request asks files told there no_tree_named none = inr (lost_printed before now status lost none).status_is
  there_exact (inl runs) request asks files told there no_tree_named none = by (right_or_out words before now status runs files told none)
    where
      by : RightOrOut words files before now status runs.reply → (status ≡ 0) ⊎ (status ≡ 4)
      by (right_printed right printed) = inl (printed.status_is ∙ reply_status files words request asks there no_tree_named runs.reply right)
      by (memory_printed printed) = inr (printed.status_is ∙ memory_code (reply_name runs.reply))

  -- so does one that asks for what is in told files
  pub exact : Runs words before now status → IsExact words before now status
  exact runs (Prove search) asks files told there none = there_exact runs (Prove search) asks files told there refl none
  exact runs (Models search) asks files told there none = there_exact runs (Models search) asks files told there refl none
  exact runs (Check file tree root) asks files told there none =
      by (only words before now status runs files told (asked words files (Check file tree root) asks tt) none (Answered (Check file tree root) Accepted) (record { to = asks; cause = there; whole = λ same. cc; enough = λ same. cc }))
    where
      by : IsPrinted (printout_of (Answered (Check file tree root) Accepted)) before now status ⊎ RanOut (Some (name_of file)) before now status → (status ≡ 0) ⊎ (status ≡ 4)
      by (inl printed) = inl printed.status_is
      by (inr (inl printed)) = inr printed.status_is
      by (inr (inr printed)) = inr printed.status_is
  exact runs (Forms file root) asks files told there none = there_exact runs (Forms file root) asks files told there refl none
  exact runs (Sample size workers budget) asks files told there none = there_exact runs (Sample size workers budget) asks files told there refl none

-- a printout gives its own status, or that of a failure
own_status : (printout : Printout) (out out' err err' : SinkSeen) (status : ℕ) → Prints printout out out' err err' status → (status ≡ code printout.status) ⊎ (status ≡ 3)
own_status printout out out' err err' status (inl all) = inl all.status_is
own_status printout out out' err err' status (inr (inl failed)) = inr failed.status_is
own_status printout out out' err err' status (inr (inr failed)) = inr failed.status_is

-- where a put failed the status says so
put_status : (printout : Printout) (out out' err err' : SinkSeen) (status : ℕ) → Prints printout out out' err err' status → (out'.faults ≢ out.faults) ⊎ (err'.faults ≢ err.faults) → status ≡ 3
put_status printout out out' err err' status (inl all) (inl moved) = absurd (moved all.lines.uncounted)
put_status printout out out' err err' status (inl all) (inr moved) = absurd (moved all.messages.uncounted)
put_status printout out out' err err' status (inr (inl failed)) moved = failed.status_is
put_status printout out out' err err' status (inr (inr failed)) moved = failed.status_is

-- a reply behind a failed read has the status of a failure, or memory ran out
failed_kind : (kind : ReadKind) (file : List ℕ) (line column : ℕ) (subject : List ℕ) → kind_read kind ≡ ReadFailed → read_status (At kind file line column subject) ≡ Failed
failed_kind Files file line column subject failed = refl
failed_kind ProblemAbsent file line column subject failed = cc
failed_kind IncludeAbsent file line column subject failed = cc
failed_kind TooLong file line column subject failed = cc
failed_kind kind file line column subject failed = absurd (apart failed)
  where
    apart : ReadDone ≡ ReadFailed → ⊥
    apart same = cc

done_fine : ReadDone ≡ ReadFailed → ⊥
done_fine same = cc

-- whether the last read failed, or memory ran out
data Fine (answer : ReadAnswer) : Type 0 where
  is_failed : answer ≡ ReadFailed → Fine answer
  is_memory : answer ≡ ReadNoMemory → Fine answer
  is_fine : answer ≢ ReadFailed → answer ≢ ReadNoMemory → Fine answer

fine_or_not : (answer : ReadAnswer) → Fine answer
fine_or_not ReadDone = is_fine (λ same. cc) (λ same. cc)
fine_or_not ReadAbsent = is_fine (λ same. cc) (λ same. cc)
fine_or_not ReadTooLong = is_fine (λ same. cc) (λ same. cc)
fine_or_not ReadFailed = is_failed refl
fine_or_not ReadNoMemory = is_memory refl

call_quiet : (answer : ReadAnswer) (before now : Counts) → answer ≢ ReadFailed → answer ≢ ReadNoMemory → CallEnds answer before now → now.faults ≡ before.faults
call_quiet ReadDone before now whole enough ends = none_failed ReadDone before now whole ends
call_quiet ReadAbsent before now whole enough ends = none_failed ReadAbsent before now whole ends
call_quiet ReadTooLong before now whole enough ends = none_failed ReadTooLong before now whole ends
call_quiet ReadFailed before now whole enough ends = absurd (whole refl)
call_quiet ReadNoMemory before now whole enough ends = absurd (enough refl)

-- what a reply counts, where no read failed
source_quiet : (source : Source) (answer : ReadAnswer) (before now : Counts) → answer ≢ ReadFailed → answer ≢ ReadNoMemory → AreCounted source answer before now → now.faults ≡ before.faults
source_quiet (OfFile file root) answer before now whole enough counted = call_quiet answer before now whole enough counted
source_quiet (OfSample size) answer before now whole enough counted = ap (λ (counts : Counts). counts.faults) counted

reply_quiet : (reply : Reply) (before now : Counts) → IsCounted reply before now → reply_read reply ≢ ReadFailed → reply_read reply ≢ ReadNoMemory → now.faults ≡ before.faults
reply_quiet Usage before now counted whole enough = ap (λ (counts : Counts). counts.faults) counted
reply_quiet (Answered request answer) before now counted whole enough = source_quiet (source_of request) ReadDone before now whole enough counted
reply_quiet (Refused request refusal) before now counted whole enough = source_quiet (source_of request) (refusal_read refusal) before now whole enough counted

-- the status of a reply behind a failed read is that of a failure
failed_status : (reply : Reply) → reply_read reply ≡ ReadFailed → (printout_of reply).status ≡ Failed
failed_status Usage failed = absurd (done_fine failed)
failed_status (Answered request answer) failed = absurd (done_fine failed)
failed_status (Refused request (Unread (At kind file line column subject))) failed = failed_kind kind file line column subject failed
failed_status (Refused request (Unread NoMemoryToRead)) failed = cc
failed_status (Refused request (Unformed input fault)) failed = absurd (done_fine failed)
failed_status (Refused request (TreeAbsent tree)) failed = cc
failed_status (Refused request (TreeFailed tree)) failed = refl
failed_status (Refused request MemoryOut) failed = cc

-- a reply with the status of a failure stands behind a failed read
other_kind : (kind : ReadKind) (file : List ℕ) (line column : ℕ) (subject : List ℕ) → 3 ≡ code (read_status (At kind file line column subject)) → kind_read kind ≡ ReadFailed
other_kind Files file line column subject same = refl
other_kind kind file line column subject same = absurd (omega arith)

check_fine : (answer : CheckAnswer) → 3 ≡ code (check_status answer) → ⊥
check_fine Accepted same = omega arith
check_fine (Rejected line why) same = omega arith
check_fine (UnreadTree line kind) same = omega arith

finding_fine : (finding : Finding) → 3 ≡ code (finding_status finding) → ⊥
finding_fine (Unsatisfiable doc) same = omega arith
finding_fine (Satisfiable set) same = omega arith
finding_fine (GaveUp limit) same = omega arith

listed_fine : (gave_up : Option Limit) → 3 ≡ code (listed_status gave_up) → ⊥
listed_fine None same = omega arith
listed_fine (Some limit) same = omega arith

answer_fine : (request : Request) (answer : Answer request) → 3 ≡ code (answer_printout request answer).status → ⊥
answer_fine (Prove search) answer same = finding_fine answer.finding same
answer_fine (Models search) answer same = listed_fine answer.gave_up same
answer_fine (Check file tree root) answer same = check_fine answer same
answer_fine (Forms file root) answer same = omega arith
answer_fine (Sample size workers budget) answer same = listed_fine answer.gave_up same

behind_failure : (reply : Reply) → 3 ≡ code (printout_of reply).status → reply_read reply ≡ ReadFailed
behind_failure Usage same = absurd (omega arith)
behind_failure (Answered request answer) same = absurd (answer_fine request answer same)
behind_failure (Refused request (Unread (At kind file line column subject))) same = other_kind kind file line column subject same
behind_failure (Refused request (Unread NoMemoryToRead)) same = absurd (omega arith)
behind_failure (Refused request (Unformed input fault)) same = absurd (omega arith)
behind_failure (Refused request (TreeAbsent tree)) same = absurd (omega arith)
behind_failure (Refused request (TreeFailed tree)) same = refl
behind_failure (Refused request MemoryOut) same = absurd (omega arith)

memory_fine : (name : Option (List ℕ)) → 3 ≡ code (memory_printout name).status → ⊥
memory_fine None same = omega arith
memory_fine (Some name) same = omega arith

-- when the status is that of a failure, where the words were replied to
failure_replied : (words : List (List ℕ)) (before now : Outside) (status : ℕ) → IsReplied words before now status → IsFailure before now status
failure_replied words before now status runs = record { put = put runs.printed; read = read; cause = cause }
  where
    put : Prints (printout_of runs.reply) before.out now.out before.err now.err status ⊎ Prints (memory_printout (reply_name runs.reply)) before.out now.out before.err now.err status → SomePutFailed before now → status ≡ 3
    put (inl prints) moved = put_status (printout_of runs.reply) before.out now.out before.err now.err status prints moved
    put (inr prints) moved = put_status (memory_printout (reply_name runs.reply)) before.out now.out before.err now.err status prints moved

    failed : (status ≡ code (printout_of runs.reply).status) ⊎ (status ≡ 3) → reply_read runs.reply ≡ ReadFailed → status ≡ 3
    failed (inl own) is = own ∙ ap code (failed_status runs.reply is)
    failed (inr other) is = other

    memory : (status ≡ code (memory_printout (reply_name runs.reply)).status) ⊎ (status ≡ 3) → (status ≡ 3) ⊎ (status ≡ 4)
    memory (inl own) = inr (own ∙ memory_code (reply_name runs.reply))
    memory (inr other) = inl other

    out_of_memory : reply_read runs.reply ≡ ReadNoMemory → (reply_read runs.reply ≢ ReadNoMemory) ⊎ (printout_of runs.reply ≡ memory_printout (reply_name runs.reply)) → Prints (printout_of runs.reply) before.out now.out before.err now.err status → (status ≡ 3) ⊎ (status ≡ 4)
    out_of_memory is (inl enough) prints = absurd (enough is)
    out_of_memory is (inr same) prints =
        memory (own_status (memory_printout (reply_name runs.reply)) before.out now.out before.err now.err status (subst (λ printout. Prints printout before.out now.out before.err now.err status) same prints))

    by_read : Fine (reply_read runs.reply) → Prints (printout_of runs.reply) before.out now.out before.err now.err status ⊎ Prints (memory_printout (reply_name runs.reply)) before.out now.out before.err now.err status
        → now.counts.faults ≢ before.counts.faults → (status ≡ 3) ⊎ (status ≡ 4)
    by_read fine_read (inr prints) moved = memory (own_status (memory_printout (reply_name runs.reply)) before.out now.out before.err now.err status prints)
    by_read (is_failed is) (inl prints) moved = inl (failed (own_status (printout_of runs.reply) before.out now.out before.err now.err status prints) is)
    by_read (is_memory is) (inl prints) moved = out_of_memory is (known before.told runs.reply runs.cause) prints
    by_read (is_fine whole enough) (inl prints) moved = absurd (moved (reply_quiet runs.reply before.counts now.counts runs.counted whole enough))

    read : now.counts.faults ≢ before.counts.faults → (status ≡ 3) ⊎ (status ≡ 4)
    read moved = by_read (fine_or_not (reply_read runs.reply)) runs.printed moved

    by_cause : Prints (printout_of runs.reply) before.out now.out before.err now.err status ⊎ Prints (memory_printout (reply_name runs.reply)) before.out now.out before.err now.err status → status ≡ 3 → NoneFailed before now → ⊥
    by_cause (inl prints) is none =
        let all = whole (printout_of runs.reply) before.out now.out before.err now.err status prints none.output none.messages in
        none.reads (read_failed before.told runs.reply before.counts now.counts runs.cause runs.counted (behind_failure runs.reply (sym is ∙ all.status_is)))
    by_cause (inr prints) is none =
        let all = whole (memory_printout (reply_name runs.reply)) before.out now.out before.err now.err status prints none.output none.messages in
        memory_fine (reply_name runs.reply) (sym is ∙ all.status_is)

    cause : status ≡ 3 → NoneFailed before now → ⊥
    cause is none = by_cause runs.printed is none

-- when the status of a run is that of a failure
pub failure : (words : List (List ℕ)) (before now : Outside) (status : ℕ) → Runs words before now status → IsFailure before now status
failure words before now status (inl runs) = failure_replied words before now status runs
failure words before now status (inr lost) = record {
  put = put_status (memory_printout None) before.out now.out before.err now.err status lost.printed;
  read = λ moved. absurd (moved (ap (λ (counts : Counts). counts.faults) lost.counted));
  cause = λ is none. memory_fine None (sym is ∙ (lost_printed before now status lost none).status_is);
}
