-- The lines of what is refused.
use Rattle.std.specs.Prelude.{◌≢◌, ◌<◌, ℕ, List, [], ◌∷◌, length, codes}
use Rattle.szs_report.specs.Lines.{status_line, read_value, read_messages, form_messages, tree_message, usage_lines, faulty_clause}
use Rattle.cnf_reader.specs.declared.fault.ReadFault.{ReadFault}
use Rattle.cnf_reader.specs.declared.fault.ReadFault.TheVariants.{At, NoMemory as NoMemoryToRead}
use Rattle.clause_form.specs.declared.fault.FormFault.TheVariants.{NoMemory as NoMemoryToForm}
use Rattle.szs_report.specs.declared.faults.Trouble.{Trouble}
use Rattle.szs_report.specs.declared.faults.Trouble.TheVariants.{Read, Form, TreeAbsent, TreeFailed, Usage}

abbrev pub read_out : List ℕ → ReadFault → List (List ℕ)
read_out name (At kind file line column subject) = status_line (read_value kind) name ∷ []
read_out name NoMemoryToRead = []

-- the lines for the output
abbrev pub trouble_out : List ℕ → Trouble → List (List ℕ)
trouble_out name (Read fault) = read_out name fault.now
trouble_out name (Form input fault) = status_line (codes "Inappropriate") name ∷ []
trouble_out name (TreeAbsent tree) = status_line (codes "InputError") name ∷ []
trouble_out name (TreeFailed tree) = status_line (codes "OSError") name ∷ []
trouble_out name Usage = []

-- the messages
abbrev pub trouble_err : Trouble → List (List ℕ)
trouble_err (Read fault) = read_messages fault.now
trouble_err (Form input fault) = form_messages input.now fault.now
trouble_err (TreeAbsent tree) = tree_message tree.now (codes "file not found") ∷ []
trouble_err (TreeFailed tree) = tree_message tree.now (codes "read failed") ∷ []
trouble_err Usage = usage_lines

-- no want of memory, and a fault of forms names a clause that is there
abbrev pub IsTrouble : Trouble → Type 0
IsTrouble (Read fault) = fault.now ≢ NoMemoryToRead
IsTrouble (Form input fault) = (fault.now ≢ NoMemoryToForm) × (faulty_clause fault.now < length input.now.clauses)
IsTrouble (TreeAbsent tree) = Unit {0}
IsTrouble (TreeFailed tree) = Unit {0}
IsTrouble Usage = Unit {0}
