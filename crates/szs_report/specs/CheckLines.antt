-- The lines of a check.
use Rattle.std.specs.Prelude.{ℕ, List, [], ◌∷◌}
use Rattle.szs_report.specs.Lines.{accepted_lines, rejected_line, why_words, kind_words}
use Rattle.szs_report.specs.declared.check.CheckAnswer.{CheckAnswer}
use Rattle.szs_report.specs.declared.check.CheckAnswer.TheVariants.{Accepted, Rejected, Unread}

abbrev pub check_lines : List ℕ → CheckAnswer → List (List ℕ)
check_lines name Accepted = accepted_lines name
check_lines name (Rejected line why) = rejected_line line (why_words why) ∷ []
check_lines name (Unread line kind) = rejected_line line (kind_words kind) ∷ []
