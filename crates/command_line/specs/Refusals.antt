-- Why an input is refused, whatever the command: when each refusal is right, its lines and its status.
use Rattle.std.specs.Prelude.{◌≡◌, ◌≢◌, ◌<◌, ℕ, List, [], ◌∷◌, length, Option, Some, None, Result, Ok, Err, codes}
use Rattle.mg_word.specs.Facts.{InputData, ProblemData}
use Rattle.mg_outside.specs.Reading.{Table, IsAbsent}
use Rattle.mg_outside.specs.declared.files.ReadAnswer.{ReadAnswer}
use Rattle.mg_outside.specs.declared.files.ReadAnswer.TheVariants.{Done as ReadDone, Absent as ReadAbsent, Failed as ReadFailed, NoMemory as ReadNoMemory}
use Rattle.cnf_reader.specs.Reading.{last_read}
use Rattle.cnf_reader.specs.declared.fault.ReadFault.{ReadFault}
use Rattle.cnf_reader.specs.declared.fault.ReadFault.TheVariants.{At, NoMemory as NoMemoryToRead}
use Rattle.cnf_reader.specs.declared.fault.ReadKind.TheVariants.{Files}
use Rattle.clause_form.specs.Faults.{Stands}
use Rattle.clause_form.specs.declared.fault.FormFault.{FormFault}
use Rattle.clause_form.specs.declared.fault.FormFault.TheVariants.{NoMemory as NoMemoryToForm}
use Rattle.command_words.specs.Asking.{Request}
use Rattle.szs_report.specs.Lines.{status_line, read_messages, form_messages, tree_message, faulty_clause}
use Rattle.szs_report.specs.Troubles.{read_out}
use Rattle.command_line.specs.Problems.{IsProblemOf}
use Rattle.command_line.specs.Sources.{Source, IsFaultOf, IsInputOf}
use Rattle.command_line.specs.Wanted.{source_of, tree_file}
use Rattle.command_line.specs.declared.status.Status.{Status}
use Rattle.command_line.specs.declared.status.Status.TheVariants.{Refused as RefusedStatus, Failed as FailedStatus, MemoryOut as MemoryStatus}
use Rattle.command_line.specs.declared.printout.Printout.{Printout}
use Rattle.command_line.specs.declared.refusal.Refusal.{Refusal as Held}
use Rattle.command_line.specs.declared.refusal.Refusal.TheVariants.{Unread as HeldUnread, Unformed as HeldUnformed, TreeAbsent as HeldAbsent, TreeFailed as HeldFailed, MemoryOut as HeldMemoryOut}

pub data Refusal : Type 0 where
  -- the problem was not read
  Unread : (fault : ReadFault) → Refusal
  -- the problem was read as this input, and has no forms
  Unformed : (input : InputData) (fault : FormFault) → Refusal
  -- there is no file of that name, where a tree is wanted
  TreeAbsent : (tree : List ℕ) → Refusal
  -- the reading of the tree's file failed
  TreeFailed : (tree : List ℕ) → Refusal
  -- memory ran out
  MemoryOut : Refusal

-- what a refusal of the program is seen as
abbrev pub seen : Held → Refusal
seen (HeldUnread fault) = Unread fault
seen (HeldUnformed input fault) = Unformed input fault
seen (HeldAbsent tree) = TreeAbsent tree.now
seen (HeldFailed tree) = TreeFailed tree.now
seen HeldMemoryOut = MemoryOut

-- the first fault of reading stands there
pub record IsUnread (told : Option Table) (source : Source) (fault : ReadFault) : Type 0 where
  pub stands : IsFaultOf told source fault
  pub some : fault ≢ NoMemoryToRead

-- this is the input, and the fault is the first of its forms
pub record IsUnformed (told : Option Table) (source : Source) (input : InputData) (fault : FormFault) : Type 0 where
  pub is : IsInputOf told source input
  pub stands : Stands input.clauses fault
  pub some : fault ≢ NoMemoryToForm

-- the command asks for this tree, and the problem was read before it
pub record IsWanted (request : Request) (told : Option Table) (tree : List ℕ) : Type 0 where
  pub named : tree_file request ≡ Some tree
  pub problem : ProblemData
  pub is : IsProblemOf told (source_of request) problem

-- what stands behind each refusal; want of memory alone has no cause, and a failed read has it in the counts
abbrev pub IsRefusal : Request → Option Table → Refusal → Type 0
IsRefusal request told (Unread fault) = IsUnread told (source_of request) fault
IsRefusal request told (Unformed input fault) = IsUnformed told (source_of request) input fault
IsRefusal request told (TreeAbsent tree) = IsWanted request told tree × IsAbsent told tree
IsRefusal request told (TreeFailed tree) = IsWanted request told tree
IsRefusal request told MemoryOut = Unit {0}

-- what the last of the reads answered
abbrev pub refusal_read : Refusal → ReadAnswer
refusal_read (Unread fault) = last_read fault
refusal_read (Unformed input fault) = ReadDone
refusal_read (TreeAbsent tree) = ReadAbsent
refusal_read (TreeFailed tree) = ReadFailed
refusal_read MemoryOut = ReadNoMemory

-- the same of an answer or a refusal
abbrev pub result_read : {A : Type 0} → Result A Held → ReadAnswer
result_read (Ok answer) = ReadDone
result_read (Err refusal) = refusal_read (seen refusal)

-- a failed read is a failure of the outside, all else is a refused input
abbrev pub read_status : ReadFault → Status
read_status (At Files file line column subject) = FailedStatus
read_status (At kind file line column subject) = RefusedStatus
read_status NoMemoryToRead = MemoryStatus

-- that memory ran out, for the problem of this name, if one was asked for
abbrev pub memory_printout : Option (List ℕ) → Printout
memory_printout None = record { out = []; err = codes "mgtp: out of memory\n" ∷ []; status = MemoryStatus }
memory_printout (Some name) = record { out = status_line (codes "MemoryOut") name ∷ []; err = codes "mgtp: out of memory\n" ∷ []; status = MemoryStatus }

-- the lines and the status of a refusal, for the problem of this name
abbrev pub refusal_printout : List ℕ → Refusal → Printout
refusal_printout name (Unread fault) = record { out = read_out name fault; err = read_messages fault; status = read_status fault }
refusal_printout name (Unformed input fault) = record { out = status_line (codes "Inappropriate") name ∷ []; err = form_messages input fault; status = RefusedStatus }
refusal_printout name (TreeAbsent tree) = record { out = status_line (codes "InputError") name ∷ []; err = tree_message tree (codes "file not found") ∷ []; status = RefusedStatus }
refusal_printout name (TreeFailed tree) = record { out = status_line (codes "OSError") name ∷ []; err = tree_message tree (codes "read failed") ∷ []; status = FailedStatus }
refusal_printout name MemoryOut = memory_printout (Some name)

-- no want of memory stands in a fault, and a fault of forms names a clause that is there
abbrev pub IsReportable : Refusal → Type 0
IsReportable (Unread fault) = fault ≢ NoMemoryToRead
IsReportable (Unformed input fault) = (fault ≢ NoMemoryToForm) × (faulty_clause fault < length input.clauses)
IsReportable (TreeAbsent tree) = Unit {0}
IsReportable (TreeFailed tree) = Unit {0}
IsReportable MemoryOut = Unit {0}
