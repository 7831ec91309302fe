-- The lines of a list of sets, complete or not, after the SZS ontology.
use Rattle.std.specs.Prelude.{ℕ, List, [], ◌∷◌, ◌++◌, length, map, Option, Some, None, codes, decimal}
use Rattle.std.specs.List.{enumerate_from}
use Rattle.mg_word.specs.Table.{Symbol}
use Rattle.mg_word.specs.declared.lit.Lit.{Lit}
use Rattle.tree_board.specs.declared.mode.Limit.{Limit}
use Rattle.tree_board.specs.declared.mode.Limits.{Limits}
use Rattle.szs_report.specs.Lines.{line_of, status_line}
use Rattle.szs_report.specs.Outputs.{start_line, end_line, set_line, lits_line, reason_line}

-- the status value: a complete list without sets is that of a problem that no set satisfies
abbrev pub list_value : List (List Lit) → Option Limit → List ℕ
list_value sets (Some limit) = codes "GaveUp"
list_value [] None = codes "Unsatisfiable"
list_value (set ∷ sets) None = codes "Satisfiable"

-- a line for each set, numbered from 1
abbrev pub set_lines : List Symbol → List (List Lit) → List (List ℕ)
set_lines table sets = map (λ numbered. set_line table numbered.0 numbered.1) (enumerate_from 1 sets)

-- the sets as an output, where there are some
abbrev pub block_lines : List Symbol → List ℕ → List (List Lit) → List (List ℕ)
block_lines table name [] = []
block_lines table name (set ∷ sets) = start_line (codes "Model") name ∷ (set_lines table (set ∷ sets) ++ end_line (codes "Model") name ∷ [])

-- whether these are all sets
abbrev pub count_words : Option Limit → List ℕ
count_words None = codes "% Models complete: "
count_words (Some limit) = codes "% Models incomplete: "

-- which limit stopped the search, where one did
abbrev pub stop_lines : Limits → Option Limit → List (List ℕ)
stop_lines limits None = []
stop_lines limits (Some limit) = reason_line limits limit ∷ []

-- how many sets there are, whether these are all, and if not, what stopped the search
abbrev pub count_lines : Limits → List (List Lit) → Option Limit → List (List ℕ)
count_lines limits sets gave_up = line_of (count_words gave_up ∷ decimal (length sets) ∷ []) ∷ stop_lines limits gave_up

-- the lines of a list of sets
abbrev pub models_lines : List Symbol → List ℕ → Limits → List (List Lit) → Option Limit → List (List ℕ)
models_lines table name limits sets gave_up = status_line (list_value sets gave_up) name ∷ (block_lines table name sets ++ count_lines limits sets gave_up)

-- the last of a set and those behind it
abbrev pub last_set : List Lit → List (List Lit) → List Lit
last_set set [] = set
last_set set (next ∷ sets) = last_set next sets

-- the literals of the first and of the last set, where there are sets
abbrev pub end_lines : List Symbol → List (List Lit) → List (List ℕ)
end_lines table [] = []
end_lines table (set ∷ sets) = lits_line table (codes "first: ") set ∷ lits_line table (codes "last: ") (last_set set sets) ∷ []

-- the same in short: the block is left out, and the literals of the first and the last set stand at the end
abbrev pub sample_lines : List Symbol → List ℕ → Limits → List (List Lit) → Option Limit → List (List ℕ)
sample_lines table name limits sets gave_up = status_line (list_value sets gave_up) name ∷ (count_lines limits sets gave_up ++ end_lines table sets)
