-- Laws of what is printed.
use Rattle.std.specs.Prelude.{◌≡◌, ℕ, List, Option, Some, IsTrue}
use Rattle.mg_outside.specs.Reading.{Table}
use Rattle.tree_checker.specs.declared.doc.Doc.{Doc}
use Rattle.proof_tree.specs.FirstFaults.{has_no_feed}
use Rattle.command_line.specs.Checks.{IsChecked}
use Rattle.szs_report.specs.Names.{name_of}
use Rattle.szs_report.specs.Printing.{text_of}
use Rattle.szs_report.specs.declared.check.CheckAnswer.TheVariants.{Accepted}
use Rattle.tree_board.specs.declared.mode.Limits.{Limits}
use Rattle.command_line.specs.Proves.{Proved, IsProved, prove_printout}
use Rattle.command_line.specs.Sources.{OfFile}
use Rattle.command_line.specs.declared.finding.Finding.TheVariants.{Unsatisfiable}

-- all that is printed of a proof, put into a file, is a tree that is accepted, where no line feed is in the problem's name
abbrev pub ProofsAreAccepted : Type 0
ProofsAreAccepted = (files : Table) (file tree : List ℕ) (root : Option (List ℕ)) (limits : Limits) (answer : Proved) (doc : Doc) → IsProved (Some files) (OfFile file root) limits answer → answer.finding ≡ Unsatisfiable doc
    → IsTrue (has_no_feed (name_of file)) → files tree ≡ Some (text_of (prove_printout (name_of file) limits answer).out) → IsChecked (Some files) (OfFile file root) tree Accepted
