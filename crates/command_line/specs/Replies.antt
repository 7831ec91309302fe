-- What is answered to words: when each reply is right, what it counts and what it prints.
use Rattle.std.specs.Prelude.{◌≡◌, ◌≢◌, ℕ, List, [], Option, Some, None, Result, IfOk}
use Rattle.mg_word.specs.Facts.{ProblemData}
use Rattle.mg_word.specs.declared.memory.NoMemory.{NoMemory}
use Rattle.mg_outside.specs.Counting.{Counts, CallEnds}
use Rattle.mg_outside.specs.Reading.{Table}
use Rattle.mg_outside.specs.declared.files.ReadAnswer.{ReadAnswer}
use Rattle.mg_outside.specs.declared.files.ReadAnswer.TheVariants.{Done as ReadDone, Failed as ReadFailed, NoMemory as ReadNoMemory}
use Rattle.command_words.specs.Asking.{Request, Prove, Models, Check, Forms, Sample}
use Rattle.szs_report.specs.FormLines.{forms_lines}
use Rattle.szs_report.specs.Lines.{usage_lines}
use Rattle.szs_report.specs.Names.{name_of, sample_name}
use Rattle.szs_report.specs.declared.check.CheckAnswer.{CheckAnswer}
use Rattle.command_line.specs.Checks.{IsChecked, check_printout}
use Rattle.command_line.specs.Listed.{Listed, IsListed, models_printout, sample_printout}
use Rattle.command_line.specs.Problems.{IsProblemOf}
use Rattle.command_line.specs.Proves.{Proved, IsProved, prove_printout}
use Rattle.command_line.specs.Refusals.{Refusal, IsRefusal, refusal_read, refusal_printout}
use Rattle.command_line.specs.Sources.{Source, OfFile, OfSample, source_name}
use Rattle.command_line.specs.Wanted.{AsksOne, AsksNone, sample_limits, search_limits, searched_file, source_of}
use Rattle.command_line.specs.declared.status.Status.TheVariants.{Done as DoneStatus, Refused as RefusedStatus}
use Rattle.command_line.specs.declared.printout.Printout.{Printout}

-- what a command answers, where its input is not refused
abbrev pub Answer : Request → Type 0
Answer (Prove search) = Proved
Answer (Models search) = Listed
Answer (Check file tree root) = CheckAnswer
Answer (Forms file root) = ProblemData
Answer (Sample size workers budget) = Listed

-- the answer is right in these files
abbrev pub IsAnswer : (request : Request) → Option Table → Answer request → Type 0
IsAnswer (Prove search) told answer = IsProved told (searched_file search) (search_limits search) answer
IsAnswer (Models search) told answer = IsListed told (searched_file search) (search_limits search) answer
IsAnswer (Check file tree root) told answer = IsChecked told (OfFile file root) tree answer
IsAnswer (Forms file root) told problem = IsProblemOf told (OfFile file root) problem
IsAnswer (Sample size workers budget) told answer = IsListed told (OfSample size) (sample_limits budget) answer

-- the lines of a problem's forms, and the status
abbrev pub forms_printout : ProblemData → Printout
forms_printout problem = record { out = forms_lines problem; err = []; status = DoneStatus }

-- the lines and the status of an answer
abbrev pub answer_printout : (request : Request) → Answer request → Printout
answer_printout (Prove search) answer = prove_printout (name_of search.file) (search_limits search) answer
answer_printout (Models search) answer = models_printout (name_of search.file) (search_limits search) answer
answer_printout (Check file tree root) answer = check_printout (name_of file) answer
answer_printout (Forms file root) problem = forms_printout problem
answer_printout (Sample size workers budget) answer = sample_printout (sample_name size) (sample_limits budget) answer

-- the usage, the answer of a command, or why its input is refused
pub data Reply : Type 0 where
  Usage : Reply
  Answered : (request : Request) → Answer request → Reply
  Refused : (request : Request) → Refusal → Reply

-- it is a reply to what the words ask one worker for
abbrev pub IsReplyTo : List (List ℕ) → Reply → Type 0
IsReplyTo words Usage = AsksNone words
IsReplyTo words (Answered request answer) = AsksOne words request
IsReplyTo words (Refused request refusal) = AsksOne words request

-- what stands behind each reply
abbrev pub HasCause : Option Table → Reply → Type 0
HasCause told Usage = Unit {0}
HasCause told (Answered request answer) = IsAnswer request told answer
HasCause told (Refused request refusal) = IsRefusal request told refusal

-- what the last read before it answered
abbrev pub reply_read : Reply → ReadAnswer
reply_read Usage = ReadDone
reply_read (Answered request answer) = ReadDone
reply_read (Refused request refusal) = refusal_read refusal

-- what is counted of the reads for a problem, where the last answered so; a sample is not read
abbrev pub AreCounted : Source → ReadAnswer → Counts → Counts → Type 0
AreCounted (OfFile file root) answer before now = CallEnds answer before now
AreCounted (OfSample size) answer before now = now ≡ before

-- what is counted: the reads that led to the reply, and nothing before any other
abbrev pub IsCounted : Reply → Counts → Counts → Type 0
IsCounted Usage before now = now ≡ before
IsCounted (Answered request answer) before now = AreCounted (source_of request) ReadDone before now
IsCounted (Refused request refusal) before now = AreCounted (source_of request) (refusal_read refusal) before now

-- the name of the problem in its lines
abbrev pub reply_name : Reply → Option (List ℕ)
reply_name Usage = None
reply_name (Answered request answer) = Some (source_name (source_of request))
reply_name (Refused request refusal) = Some (source_name (source_of request))

-- its lines and its status
abbrev pub printout_of : Reply → Printout
printout_of Usage = record { out = []; err = usage_lines; status = RefusedStatus }
printout_of (Answered request answer) = answer_printout request answer
printout_of (Refused request refusal) = refusal_printout (source_name (source_of request)) refusal

-- of told files a reply is right where it is one to the words and has its cause, no read failed and memory was enough
pub record IsRightReply (words : List (List ℕ)) (files : Table) (reply : Reply) : Type 0 where
  pub to : IsReplyTo words reply
  pub cause : HasCause (Some files) reply
  pub whole : reply_read reply ≢ ReadFailed
  pub enough : reply_read reply ≢ ReadNoMemory

-- the command to which it is a reply; the usage is none to a command
abbrev pub request_of : Reply → Option Request
request_of Usage = None
request_of (Answered request answer) = Some request
request_of (Refused request refusal) = Some request

-- what is to be printed is that of a reply that has its cause, or memory ran out
pub record Replies (wanted : Option Request) (told : Option Table) (before now : Counts) (result : Result Printout NoMemory) : Type 0 where
  pub reply : Reply
  pub to : request_of reply ≡ wanted
  pub cause : HasCause told reply
  pub counted : IsCounted reply before now
  pub lines : IfOk result (λ printout. printout ≡ printout_of reply)
