-- The answers of a check: when each is right, its lines and its status.
use Rattle.std.specs.Prelude.{◌≡◌, ℕ, List, [], Option, Some, IfSome}
use Rattle.mg_word.specs.Facts.{ProblemData}
use Rattle.mg_outside.specs.Reading.{Table}
use Rattle.mg_meaning.specs.Refuting.{Refutes}
use Rattle.tree_checker.specs.Docs.{Accepts, Rejects}
use Rattle.tree_checker.specs.Instances.{instances_of}
use Rattle.tree_checker.specs.declared.doc.Doc.{Doc}
use Rattle.tree_checker.specs.declared.doc.Why.{Why}
use Rattle.tree_checker.specs.declared.doc.Reject.TheVariants.{Line as BrokenLine}
use Rattle.tree_checker.specs.declared.doc_fault.DocKind.{DocKind}
use Rattle.tree_checker.specs.declared.doc_fault.DocFault.TheVariants.{Line as FaultyLine}
use Rattle.proof_tree.specs.DocText.{IsDocText}
use Rattle.proof_tree.specs.FirstFaults.{IsDocFault}
use Rattle.command_line.specs.Problems.{IsProblemOf}
use Rattle.command_line.specs.Sources.{Source}
use Rattle.command_line.specs.declared.printout.Printout.{Printout}
use Rattle.command_line.specs.declared.status.Status.{Status}
use Rattle.command_line.specs.declared.status.Status.TheVariants.{Done as DoneStatus, Rejected as RejectedStatus}
use Rattle.szs_report.specs.CheckLines.{check_lines}
use Rattle.szs_report.specs.declared.check.CheckAnswer.{CheckAnswer}
use Rattle.szs_report.specs.declared.check.CheckAnswer.TheVariants.{Accepted, Rejected, Unread}

-- the text is that of a document that is accepted: no list of atoms makes all its instances true
pub record IsAccepted (problem : ProblemData) (text : List ℕ) : Type 0 where
  pub doc : Doc
  pub read : IsDocText problem doc text
  pub accepts : Accepts problem doc
  pub refuted : Refutes (instances_of problem doc) problem

-- the text is that of a document, and of no other, of which this line is the first that breaks a rule
pub record IsRejected (problem : ProblemData) (text : List ℕ) (line : ℕ) (why : Why) : Type 0 where
  pub doc : Doc
  pub read : IsDocText problem doc text
  pub only : (other : Doc) → IsDocText problem other text → other ≡ doc
  pub rejects : Rejects problem doc (BrokenLine line why)
  pub not_accepted : Accepts problem doc → ⊥

-- the text is that of no document: this line is the first that has a fault
pub record IsUnread (problem : ProblemData) (text : List ℕ) (line : ℕ) (kind : DocKind) : Type 0 where
  pub faulty : IsDocFault problem text (FaultyLine line kind)
  pub none : (doc : Doc) → IsDocText problem doc text → ⊥

-- the answer is right for the text of a tree
abbrev pub IsJudged : ProblemData → List ℕ → CheckAnswer → Type 0
IsJudged problem text Accepted = IsAccepted problem text
IsJudged problem text (Rejected line why) = IsRejected problem text line why
IsJudged problem text (Unread line kind) = IsUnread problem text line kind

-- the file has these bytes, where the files are told
abbrev pub Holds : Option Table → List ℕ → List ℕ → Type 0
Holds told name bytes = IfSome told (λ files. files name ≡ Some bytes)

-- the answer is right for the problem of the source and the text of the file
pub record IsChecked (told : Option Table) (source : Source) (tree : List ℕ) (answer : CheckAnswer) : Type 0 where
  pub problem : ProblemData
  pub is : IsProblemOf told source problem
  pub text : List ℕ
  pub there : Holds told tree text
  pub judged : IsJudged problem text answer

abbrev pub check_status : CheckAnswer → Status
check_status Accepted = DoneStatus
check_status (Rejected line why) = RejectedStatus
check_status (Unread line kind) = RejectedStatus

-- the lines and the status of an answer, on the problem of this name
abbrev pub check_printout : List ℕ → CheckAnswer → Printout
check_printout name answer = record { out = check_lines name answer; err = []; status = check_status answer }
