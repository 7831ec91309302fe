-- The answers of `prove`: when each is right, its lines and its status.
use Rattle.std.specs.Prelude.{ℕ, List, [], Option, IsTrue}
use Rattle.mg_word.specs.Facts.{ProblemData}
use Rattle.mg_outside.specs.Reading.{Table}
use Rattle.mg_meaning.specs.Instances.{are_literals}
use Rattle.proof_tree.specs.DocText.{doc_text}
use Rattle.szs_report.specs.ProveLines.{proof_lines, model_lines, gave_up_lines}
use Rattle.tree_board.specs.declared.event.Event.{Event}
use Rattle.tree_board.specs.declared.mode.Limits.{Limits}
use Rattle.tree_checker.specs.Docs.{IsWellFormed}
use Rattle.command_line.specs.Problems.{IsProblemOf}
use Rattle.command_line.specs.Searched.{search_of, IsFound}
use Rattle.command_line.specs.Sources.{Source}
use Rattle.command_line.specs.declared.finding.Finding.{Finding}
use Rattle.command_line.specs.declared.finding.Finding.TheVariants.{Unsatisfiable, Satisfiable, GaveUp}
use Rattle.command_line.specs.declared.printout.Printout.{Printout}
use Rattle.command_line.specs.declared.status.Status.{Status}
use Rattle.command_line.specs.declared.status.Status.TheVariants.{Done, Rejected}

-- the problem, and what the search for it ends with
pub record Proved : Type 0 where
  pub problem : ProblemData
  pub finding : Finding

-- the answer is right for the problem of the source, within these limits
pub record IsProved (told : Option Table) (source : Source) (limits : Limits) (answer : Proved) : Type 0 where
  pub is : IsProblemOf told source answer.problem
  pub journal : List Event
  pub found : IsFound (search_of answer.problem limits journal) answer.finding

-- the lines of what a search for the problem ends with
abbrev pub finding_lines : ProblemData → List ℕ → Limits → Finding → List (List ℕ)
finding_lines problem name limits (Unsatisfiable doc) = proof_lines name (doc_text problem doc)
finding_lines problem name limits (Satisfiable set) = model_lines problem.symbols name set
finding_lines problem name limits (GaveUp limit) = gave_up_lines name limits limit

abbrev pub finding_status : Finding → Status
finding_status (Unsatisfiable doc) = Done
finding_status (Satisfiable set) = Done
finding_status (GaveUp limit) = Rejected

-- the finding has lines: a well-formed document, or a set of the problem's literals
abbrev pub HasLines : ProblemData → Finding → Type 0
HasLines problem (Unsatisfiable doc) = IsWellFormed problem doc
HasLines problem (Satisfiable set) = IsTrue (are_literals problem.symbols set)
HasLines problem (GaveUp limit) = Unit {0}

-- the lines and the status of an answer, on the problem of this name
abbrev pub prove_printout : List ℕ → Limits → Proved → Printout
prove_printout name limits answer = record { out = finding_lines answer.problem name limits answer.finding; err = []; status = finding_status answer.finding }
