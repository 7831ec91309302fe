-- Lines that several answers have: before and behind an output, of a set, and of what stopped a search.
use Rattle.std.specs.Prelude.{ℕ, List, [], ◌∷◌, map, codes, decimal}
use Rattle.mg_word.specs.Spelling.{spelled_lit}
use Rattle.mg_word.specs.Table.{Symbol}
use Rattle.mg_word.specs.declared.lit.Lit.{Lit}
use Rattle.clause_form.specs.Lines.{joined as separated}
use Rattle.tree_board.specs.declared.mode.Limit.{Limit}
use Rattle.tree_board.specs.declared.mode.Limit.TheVariants.{Budget, Weight}
use Rattle.tree_board.specs.declared.mode.Limits.{Limits}
use Rattle.szs_report.specs.Lines.{line_of}

-- what stands before and behind an output of this kind
abbrev pub start_line : List ℕ → List ℕ → List ℕ
start_line kind name = line_of (codes "% SZS output start " ∷ kind ∷ codes " for " ∷ name ∷ [])

abbrev pub end_line : List ℕ → List ℕ → List ℕ
end_line kind name = line_of (codes "% SZS output end " ∷ kind ∷ codes " for " ∷ name ∷ [])

-- the literals of a set, in order
abbrev pub set_text : List Symbol → List Lit → List ℕ
set_text table set = separated (codes ", ") (map (spelled_lit table) set)

-- the space before them, where there are some
abbrev pub space_before : List Lit → List ℕ
space_before [] = []
space_before (lit ∷ lits) = codes " "

-- the line of a set with that number
abbrev pub set_line : List Symbol → ℕ → List Lit → List ℕ
set_line table number set = line_of (codes "model " ∷ decimal number ∷ codes ":" ∷ space_before set ∷ set_text table set ∷ [])

-- the line of these words and the literals of a set
abbrev pub lits_line : List Symbol → List ℕ → List Lit → List ℕ
lits_line table words set = line_of (words ∷ set_text table set ∷ [])

-- which limit stopped the search, and where it lies
abbrev pub reason_line : Limits → Limit → List ℕ
reason_line limits Budget = line_of (codes "% Reason: budget " ∷ decimal limits.budget ∷ [])
reason_line limits Weight = line_of (codes "% Reason: weight " ∷ decimal limits.weight ∷ [])
