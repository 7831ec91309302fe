-- The lines of documents, over any way to write the words that they name.
use Rattle.std.specs.Prelude.{ℕ, List, [], ◌∷◌, ◌++◌, map, codes}
use Rattle.std.specs.Fmt.{decimal}
use Rattle.term_text.specs.Brackets.{listed}
use Rattle.term_text.specs.Lits.{LineLit, lit_text}

-- a line of each kind
pub data DocLine (W : Type 0) : Type 0 where
  header_line : DocLine W
  lemma_line : (number : ℕ) → DocLine W
  inside_line : (lits : List (LineLit W)) → DocLine W
  outside_line : (lits : List (LineLit W)) → DocLine W
  root_line : DocLine W
  form_line : (number : ℕ) (terms : List W) → DocLine W
  clash_line : (lit : LineLit W) → DocLine W
  barred_line : (lit : LineLit W) → DocLine W
  by_line : (number : ℕ) → DocLine W

-- the text of a line whose words are spelled so
abbrev pub line_text : {W : Type 0} → (W → List ℕ) → DocLine W → List ℕ
line_text spell header_line = codes "mgtp tree 1"
line_text spell (lemma_line number) = codes "lemma " ++ decimal number
line_text spell (inside_line lits) = codes "inside " ++ listed (map (lit_text spell) lits)
line_text spell (outside_line lits) = codes "outside " ++ listed (map (lit_text spell) lits)
line_text spell root_line = codes "root"
line_text spell (form_line number terms) = codes "form " ++ (decimal number ++ 32 ∷ listed (map spell terms))
line_text spell (clash_line lit) = codes "clash " ++ lit_text spell lit
line_text spell (barred_line lit) = codes "barred " ++ lit_text spell lit
line_text spell (by_line number) = codes "by " ++ decimal number

-- each line is ended by a line feed
abbrev pub ended : List (List ℕ) → List ℕ
ended [] = []
ended (line ∷ lines) = line ++ 10 ∷ ended lines
