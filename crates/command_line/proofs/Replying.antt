-- How the parts of a command make its reply.
use Rattle.std.proofs.Common.{◌≡◌, ◌≢◌, ◌<◌, ℕ, List, ◌∷◌, ◌++◌, length, Option, Some, None, Result, Ok, Err, inl, inr, refl, sym, ap, ◌∙◌, subst, arith, length-append}
use Rattle.std.specs.Prelude.{IfOk, MatchOption, MatchResult}
use Rattle.std.specs.Option.{option_map}
use Rattle.mg_word.specs.Facts.{InputData}
use Rattle.mg_word.specs.declared.memory.NoMemory.{NoMemory}
use Rattle.mg_word.specs.declared.clause.Clause.{Clause}
use Rattle.mg_outside.specs.Counting.{Counts}
use Rattle.mg_outside.specs.Reading.{Table}
use Rattle.mg_outside.specs.declared.files.ReadAnswer.TheVariants.{Done as ReadDone, NoMemory as ReadNoMemory}
use Rattle.cnf_reader.specs.declared.fault.ReadFault.{ReadFault}
use Rattle.cnf_reader.specs.declared.fault.ReadFault.TheVariants.{NoMemory as NoMemoryToRead}
use Rattle.clause_form.specs.Faults.{Stands}
use Rattle.clause_form.specs.declared.fault.FormFault.{FormFault}
use Rattle.clause_form.specs.declared.fault.FormFault.TheVariants.{TooHeavy, TooManyForms, NotRestricted, NoMemory as NoMemoryToForm}
use Rattle.command_words.specs.Asking.{Request}
use Rattle.command_words.specs.Requests.{seen}
use Rattle.command_words.specs.declared.request.Request.{Request as Found}
use Rattle.szs_report.specs.Lines.{faulty_clause}
use Rattle.command_line.specs.Refusals.{Refusal, Unread, Unformed, TreeAbsent, TreeFailed, MemoryOut, IsRefusal, IsReportable, refusal_read, refusal_printout, memory_printout}
use Rattle.command_line.specs.Replies.{Reply, Usage, Answered, Refused, Answer, AreCounted, IsAnswer, IsReplyTo, Replies, answer_printout, printout_of, reply_name, request_of}
use Rattle.command_line.specs.Printing.{Prints}
use Rattle.command_line.specs.Runs.{Outside, IsReplied}
use Rattle.command_line.specs.Sources.{Source, OfFile, OfSample, IsFaultOf, IsInputOf, source_name}
use Rattle.command_line.specs.Wanted.{AsksNone, AsksOne, source_of}
use Rattle.command_line.specs.declared.printout.Printout.{Printout}

-- a fault of reading refuses the input of whatever command
pub unread_refusal : (told : Option Table) (source : Source) (fault : ReadFault) → IsFaultOf told source fault → fault ≢ NoMemoryToRead → (request : Request) → source_of request ≡ source → IsRefusal request told (Unread fault)
unread_refusal told source fault stands some request is = record { stands = subst (λ one. IsFaultOf told one fault) (sym is) stands; some = some }

-- so does a fault of forms
pub unformed_refusal : (told : Option Table) (source : Source) (input : InputData) (fault : FormFault) → IsInputOf told source input → Stands input.clauses fault → fault ≢ NoMemoryToForm → (request : Request) → source_of request ≡ source
    → IsRefusal request told (Unformed input fault)
unformed_refusal told source input fault own stands some request is = record { is = subst (λ one. IsInputOf told one input) (sym is) own; stands = stands; some = some }

-- a list that is split before one of its elements is longer than what stands before that
within_split : {X : Type 0} (all before after : List X) (x : X) → all ≡ before ++ x ∷ after → length before < length all
within_split all before after x split = omega (arith, ap length split, length-append before (x ∷ after))

-- the clause that a fault names is there
pub clause_there : (clauses : List Clause) (fault : FormFault) → fault ≢ NoMemoryToForm → Stands clauses fault → faulty_clause fault < length clauses
clause_there clauses (TooHeavy index position) some stands = rw stands.index_is (within_split clauses stands.before stands.after stands.clause stands.clauses_are)
clause_there clauses (TooManyForms index) some (form, reached) = rw reached.index_is (within_split clauses reached.before reached.after reached.clause reached.clauses_are)
clause_there clauses (NotRestricted index number variable) some (form, reached, few, least) = rw reached.index_is (within_split clauses reached.before reached.after reached.clause reached.clauses_are)
clause_there clauses NoMemoryToForm some stands = absurd (some refl)

-- a refusal that is right has a report
pub refusal_reportable : (request : Request) (told : Option Table) (refusal : Refusal) → IsRefusal request told refusal → IsReportable refusal
refusal_reportable request told (Unread fault) is = is.some
refusal_reportable request told (Unformed input fault) is = (is.some, clause_there input.clauses fault is.some is.stands)
refusal_reportable request told (TreeAbsent tree) is = tt
refusal_reportable request told (TreeFailed tree) is = tt
refusal_reportable request told MemoryOut is = tt

-- a command that has its answer replies with it
pub replies_answer : (request : Request) (told : Option Table) (before now : Counts) (answer : Answer request) (result : Result Printout NoMemory) → IsAnswer request told answer → AreCounted (source_of request) ReadDone before now → IfOk result (λ printout. printout ≡ answer_printout request answer)
    → Replies (Some request) told before now result
replies_answer request told before now answer result right counted lines = record { reply = Answered request answer; to = refl; cause = right; counted = counted; lines = lines }

-- one whose input is refused replies with that
pub replies_refusal : (request : Request) (told : Option Table) (before now : Counts) (refusal : Refusal) (result : Result Printout NoMemory) → IsRefusal request told refusal → AreCounted (source_of request) (refusal_read refusal) before now
    → IfOk result (λ printout. printout ≡ refusal_printout (source_name (source_of request)) refusal) → Replies (Some request) told before now result
replies_refusal request told before now refusal result right counted lines = record { reply = Refused request refusal; to = refl; cause = right; counted = counted; lines = lines }

-- reads behind which memory runs out
memory_counted : (source : Source) (before now : Counts) → AreCounted source ReadDone before now → AreCounted source ReadNoMemory before now
memory_counted (OfFile file root) before now counted = (ReadDone, counted)
memory_counted (OfSample size) before now counted = counted

-- a command may find no memory behind its reads
pub replies_memory : (request : Request) (told : Option Table) (before now : Counts) (none : NoMemory) → AreCounted (source_of request) ReadDone before now → Replies (Some request) told before now (Err none)
replies_memory request told before now none counted = record { reply = Refused request MemoryOut; to = refl; cause = tt; counted = memory_counted (source_of request) before now counted; lines = tt }

-- words that ask for nothing are answered by the usage
pub replies_usage : (told : Option Table) (counts : Counts) (result : Result Printout NoMemory) → IfOk result (λ printout. printout ≡ printout_of Usage) → Replies None told counts counts result
replies_usage told counts result lines = record { reply = Usage; to = refl; cause = tt; counted = refl; lines = lines }

-- what words ask for is what the program reads off them
pub asks_seen : (words : List (List ℕ)) (found : Option Found) → MatchOption found (AsksNone words) (λ request. AsksOne words (seen request)) → MatchOption (option_map seen found) (AsksNone words) (AsksOne words)
asks_seen words None asks = asks
asks_seen words (Some request) asks = asks

pub names_seen : (found : Option Found) → option_map (λ one. source_name (source_of (seen one))) found ≡ option_map (λ request. source_name (source_of request)) (option_map seen found)
names_seen None = refl
names_seen (Some request) = refl

name_of_request : (reply : Reply) → option_map (λ request. source_name (source_of request)) (request_of reply) ≡ reply_name reply
name_of_request Usage = refl
name_of_request (Answered request answer) = refl
name_of_request (Refused request refusal) = refl

-- a reply to what was read off the words is one to the words
reply_to : (words : List (List ℕ)) (reply : Reply) → MatchOption (request_of reply) (AsksNone words) (AsksOne words) → IsReplyTo words reply
reply_to words Usage asks = asks
reply_to words (Answered request answer) asks = asks
reply_to words (Refused request refusal) asks = asks

-- words that were read are replied to
pub replied : (words : List (List ℕ)) (wanted : Option Request) (before now : Outside) (result : Result Printout NoMemory) (name : Option (List ℕ)) (status : ℕ) → MatchOption wanted (AsksNone words) (AsksOne words)
    → Replies wanted before.told before.counts now.counts result → name ≡ option_map (λ request. source_name (source_of request)) wanted
    → MatchResult result (λ printout. Prints printout before.out now.out before.err now.err status) (λ none. Prints (memory_printout name) before.out now.out before.err now.err status)
    → IsReplied words before now status
replied words wanted before now (Ok printout) name status asks replies named prints = record {
  reply = replies.reply;
  to = reply_to words replies.reply (subst (λ one. MatchOption one (AsksNone words) (AsksOne words)) (sym replies.to) asks);
  cause = replies.cause;
  counted = replies.counted;
  printed = inl (subst (λ one. Prints one before.out now.out before.err now.err status) replies.lines prints);
}
replied words wanted before now (Err none) name status asks replies named prints =
    let names : name ≡ reply_name replies.reply = named ∙ ap (option_map (λ request. source_name (source_of request))) (sym replies.to) ∙ name_of_request replies.reply in
    record {
      reply = replies.reply;
      to = reply_to words replies.reply (subst (λ one. MatchOption one (AsksNone words) (AsksOne words)) (sym replies.to) asks);
      cause = replies.cause;
      counted = replies.counted;
      printed = inr (subst (λ one. Prints (memory_printout one) before.out now.out before.err now.err status) names prints);
    }
