-- The line of a form in a report.
use Rattle.std.specs.Prelude.{ℕ, List, [], ◌∷◌, ◌++◌, map, codes, slice_get, Option, IsTrue}
use Rattle.std.specs.List.{flat_map}
use Rattle.std.specs.Option.{option_map, option_and_then}
use Rattle.std.specs.Fmt.{decimal}
use Rattle.mg_word.specs.Table.{Symbol}
use Rattle.mg_word.specs.Words.{pattern_fits, numbered}
use Rattle.mg_word.specs.Facts.{ProblemData}
use Rattle.mg_word.specs.Spelling.{spelled_name, spelled_pattern_lit}
use Rattle.mg_word.specs.declared.clause.Name.{Name}
use Rattle.mg_word.specs.declared.form.Form.{Form}
use Rattle.mg_word.specs.declared.lit.PatLit.{PatLit}

-- the texts with that separator between each two
abbrev pub joined : List ℕ → List (List ℕ) → List ℕ
joined separator [] = []
joined separator (text ∷ texts) = text ++ flat_map (λ other. separator ++ other) texts

-- the premises, and a space where there are some
abbrev pub premises_part : List (List ℕ) → List ℕ
premises_part [] = []
premises_part (text ∷ texts) = joined (codes ", ") (text ∷ texts) ++ codes " "

-- the conclusions, after a space where there are some
abbrev pub conclusions_part : List (List ℕ) → List ℕ
conclusions_part [] = []
conclusions_part (text ∷ texts) = codes " " ++ joined (codes "; ") (text ∷ texts)

-- the number of the form and the name of its clause
abbrev pub line_head : ℕ → List ℕ → List ℕ
line_head number name = codes "form " ++ (decimal number ++ (codes " " ++ (name ++ codes ": ")))

-- the line of a form with that number, over a table
abbrev pub form_line : List Symbol → Name → ℕ → Form → List ℕ
form_line table name number form =
    line_head number (spelled_name name.kind name.text)
    ++ (premises_part (map (spelled_pattern_lit table) form.premises) ++ (codes "->" ++ conclusions_part (map (spelled_pattern_lit table) form.conclusions)))

-- the line of the problem's form with that number, where there is one
abbrev pub line_of : ProblemData → ℕ → Option (List ℕ)
line_of problem number =
    option_and_then (λ form. option_map (λ clause. form_line problem.symbols clause.name number form) (slice_get problem.clauses form.clause)) (numbered problem.forms number)

-- the literal has a spelling, as its pattern fits the table with some number of variables
abbrev pub IsSpelled : List Symbol → PatLit → Type 0
IsSpelled table lit = (variables : ℕ) × IsTrue (pattern_fits table variables lit.pattern)
