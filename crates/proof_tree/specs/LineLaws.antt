-- Laws of the lines of whole documents.
use Rattle.std.specs.Prelude.{◌≡◌, ℕ, true, List, map, All}
use Rattle.mg_word.specs.Facts.{ProblemData, IsProblem}
use Rattle.tree_checker.specs.Docs.{IsWellFormed}
use Rattle.tree_checker.specs.declared.doc.Doc.{Doc}
use Rattle.tree_checker.specs.declared.doc_fault.DocKind.{DocKind}
use Rattle.mg_word.specs.Spelling.{spelled}
use Rattle.proof_tree.specs.Bare.{counted}
use Rattle.proof_tree.specs.DocLines.{line_text, ended}
use Rattle.proof_tree.specs.DocText.{doc_lines, doc_text, IsDocText}
use Rattle.proof_tree.specs.Standing.{at_header, in_root, Leads}
use Rattle.proof_tree.specs.FirstFaults.{RawLine, IsSpelled, has_no_feed, FirstFault}

-- a text is that of one line at most, whatever terms it names
abbrev pub LinesAreSpelledApart : Type 0
LinesAreSpelledApart = (text : List ℕ) (a b : RawLine) → IsSpelled text a → IsSpelled text b → a ≡ b

-- each line of a well-formed document stands rightly, from the header to the end of the root's tree
abbrev pub DocumentsLeadToTheirEnd : Type 0
DocumentsLeadToTheirEnd = (problem : ProblemData) (doc : Doc) → IsWellFormed problem doc → Leads problem at_header (doc_lines doc) (in_root 0)

-- the text of a well-formed document has no first fault
abbrev pub DocumentsHaveNoFirstFault : Type 0
DocumentsHaveNoFirstFault = (problem : ProblemData) → IsProblem problem → (doc : Doc) (text : List ℕ) (number : ℕ) (kind : DocKind)
    → IsWellFormed problem doc → text ≡ doc_text problem doc → FirstFault problem text number kind → ⊥

-- the text of a well-formed document is that of the document
abbrev pub DocumentsHaveTheirTexts : Type 0
DocumentsHaveTheirTexts = (problem : ProblemData) → IsProblem problem → (doc : Doc) → IsWellFormed problem doc → IsDocText problem doc (doc_text problem doc)

-- lines that begin with `%` may stand between the lines of a document
abbrev pub DocumentsStandAmongRemarks : Type 0
DocumentsStandAmongRemarks = (problem : ProblemData) (doc : Doc) → IsWellFormed problem doc → (lines : List (List ℕ)) → All (λ line. has_no_feed line ≡ true) lines
    → counted lines ≡ map (line_text (spelled problem.symbols)) (doc_lines doc) → IsDocText problem doc (ended lines)
