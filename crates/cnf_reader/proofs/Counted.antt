-- What is counted where reading ends.
use Rattle.std.proofs.Common.{◌≡◌, ℕ, List, [], true, true≢false, refl, sym, subst}
use Rattle.mg_outside.specs.Counting.{Counts, OnlyAbsences, ReadsEnd, CallEnds, counted}
use Rattle.mg_outside.specs.declared.files.ReadAnswer.{ReadAnswer}
use Rattle.mg_outside.specs.declared.files.ReadAnswer.TheVariants.{Done as ReadDone, Absent as ReadAbsent, TooLong as ReadTooLong, Failed as ReadFailed}
use Rattle.mg_outside.proofs.Ends.{call_ends, ends_after, ends_at_once, quiet_ends, counts_absences, ends_in_absences}
use Rattle.cnf_reader.specs.declared.fault.ReadFault.{ReadFault}
use Rattle.cnf_reader.specs.declared.fault.ReadFault.TheVariants.{At, NoMemory}
use Rattle.cnf_reader.specs.declared.fault.ReadKind.{ReadKind}
use Rattle.cnf_reader.specs.declared.fault.ReadKind.TheVariants.{IncludeAbsent, TooLong, ProblemAbsent, Files}
use Rattle.cnf_reader.specs.Reading.{kind_read, last_read}
use Rattle.cnf_reader.specs.Parts.{is_of_text}
use Rattle.cnf_reader.specs.Entering.{FaultIs}

-- a call whose one read answered so
pub one_read : (answer : ReadAnswer) (before now : Counts) → now ≡ counted answer before → CallEnds answer before now
one_read answer before now last = call_ends answer before now (ends_at_once answer before now last)

-- a call whose first read found no file, and whose second answered so
pub second_read : (answer : ReadAnswer) (before between now : Counts) → between ≡ counted ReadAbsent before → now ≡ counted answer between → CallEnds answer before now
second_read answer before between now first last =
    call_ends answer before now (ends_after answer before between now (counts_absences ReadAbsent before between (λ same. apart_long same) (λ same. apart_failed same) first) (ends_at_once answer between now last))
  where
    apart_long : ReadAbsent ≡ ReadTooLong → ⊥
    apart_long same = cc

    apart_failed : ReadAbsent ≡ ReadFailed → ⊥
    apart_failed same = cc

-- a call that reads nothing
pub no_read : (counts : Counts) → ReadsEnd ReadDone counts counts
no_read counts = ends_at_once ReadDone counts counts refl

-- reads that ended with a whole file
pub whole_file : (before now : Counts) → ReadsEnd ReadDone before now → OnlyAbsences before now
whole_file before now ends = ends_in_absences ReadDone before now (λ same. long same) (λ same. failed same) ends
  where
    long : ReadDone ≡ ReadTooLong → ⊥
    long same = cc

    failed : ReadDone ≡ ReadFailed → ⊥
    failed same = cc

-- a fault, or want of memory in its place, behind reads that ended so
pub fault_counted : (kind : ReadKind) (file : List ℕ) (line column : ℕ) (subject : List ℕ) (fault : ReadFault) (before now : Counts) → FaultIs kind file line column subject fault → ReadsEnd (kind_read kind) before now → CallEnds (last_read fault) before now
fault_counted kind file line column subject NoMemory before now is ends = (kind_read kind, ends)
fault_counted kind file line column subject (At found name at_line at_column what) before now is ends =
    subst (λ fault. CallEnds (last_read fault) before now) (sym is) (call_ends (kind_read kind) before now ends)

-- a fault of a text comes behind a whole file
pub text_read : (kind : ReadKind) → is_of_text kind ≡ true → kind_read kind ≡ ReadDone
text_read Files text = absurd (true≢false (sym text))
text_read ProblemAbsent text = absurd (true≢false (sym text))
text_read IncludeAbsent text = absurd (true≢false (sym text))
text_read TooLong text = absurd (true≢false (sym text))
text_read kind text = refl

pub text_counted : (kind : ReadKind) (file : List ℕ) (line column : ℕ) (fault : ReadFault) (before now : Counts) → is_of_text kind ≡ true → FaultIs kind file line column [] fault → OnlyAbsences before now → CallEnds (last_read fault) before now
text_counted kind file line column fault before now text is quiet =
    fault_counted kind file line column [] fault before now is (subst (λ answer. ReadsEnd answer before now) (sym (text_read kind text)) (quiet_ends before now quiet))
