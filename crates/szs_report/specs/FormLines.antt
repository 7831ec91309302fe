-- The lines of a problem's forms.
use Rattle.std.specs.Prelude.{ℕ, zero, suc, ◌+◌, List, [], ◌∷◌, ◌++◌, length, codes, decimal}
use Rattle.mg_word.specs.Facts.{ProblemData}
use Rattle.std.specs.Option.{option_map_or}
use Rattle.clause_form.specs.Lines.{line_of as line_of_form}
use Rattle.szs_report.specs.Lines.{line_of}

-- the line of the form with that number, without its line feed
abbrev pub form_line : ProblemData → ℕ → List ℕ
form_line problem number = option_map_or (λ line. line) (line_of_form problem number) []

-- the lines of the first forms
abbrev pub first_lines : ProblemData → ℕ → List (List ℕ)
first_lines problem zero = []
first_lines problem (suc count) = first_lines problem count ++ line_of (form_line problem (count + 1) ∷ []) ∷ []

-- a line for each form, and how many they are
abbrev pub forms_lines : ProblemData → List (List ℕ)
forms_lines problem = first_lines problem (length problem.forms) ++ line_of (codes "% Forms: " ∷ decimal (length problem.forms) ∷ []) ∷ []
