-- The lines of what a search for a proof or a set ends with, after the SZS ontology.
use Rattle.std.specs.Prelude.{ℕ, List, [], ◌∷◌, codes, IsTrue}
use Rattle.mg_word.specs.Table.{Symbol}
use Rattle.mg_word.specs.declared.lit.Lit.{Lit}
use Rattle.mg_meaning.specs.Instances.{are_literals}
use Rattle.tree_board.specs.declared.mode.Limit.{Limit}
use Rattle.tree_board.specs.declared.mode.Limits.{Limits}
use Rattle.szs_report.specs.Lines.{status_line}
use Rattle.szs_report.specs.Outputs.{start_line, end_line, set_line, reason_line}
use Rattle.szs_report.specs.declared.prove.ProveAnswer.{ProveAnswer}
use Rattle.szs_report.specs.declared.prove.ProveAnswer.TheVariants.{Unsatisfiable, Satisfiable, GaveUp}

-- the status line, and a text of whole lines as an output of that kind
abbrev pub output_lines : List ℕ → List ℕ → List ℕ → List ℕ → List (List ℕ)
output_lines value kind name text = status_line value name ∷ start_line kind name ∷ text ∷ end_line kind name ∷ []

-- the lines of a proof with this text, of a set, and of a search that a limit stopped
abbrev pub proof_lines : List ℕ → List ℕ → List (List ℕ)
proof_lines name text = output_lines (codes "Unsatisfiable") (codes "Proof") name text

abbrev pub model_lines : List Symbol → List ℕ → List Lit → List (List ℕ)
model_lines table name set = output_lines (codes "Satisfiable") (codes "Model") name (set_line table 1 set)

abbrev pub gave_up_lines : List ℕ → Limits → Limit → List (List ℕ)
gave_up_lines name limits limit = status_line (codes "GaveUp") name ∷ reason_line limits limit ∷ []

-- the lines of what is to be shown
abbrev pub shown_lines : List Symbol → List ℕ → Limits → ProveAnswer → List (List ℕ)
shown_lines table name limits (Unsatisfiable text) = proof_lines name text.now
shown_lines table name limits (Satisfiable set) = model_lines table name set.now
shown_lines table name limits (GaveUp limit) = gave_up_lines name limits limit

-- a set that is to be shown is one of the table's literals
abbrev pub IsShowable : List Symbol → ProveAnswer → Type 0
IsShowable table (Unsatisfiable text) = Unit {0}
IsShowable table (Satisfiable set) = IsTrue (are_literals table set.now)
IsShowable table (GaveUp limit) = Unit {0}
