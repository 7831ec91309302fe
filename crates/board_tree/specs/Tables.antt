-- The new numbers of lemmas as a table, and how it comes about.
use Rattle.std.specs.Prelude.{ℕ, zero, suc, ◌+◌, if◌then◌else◌, Bool, true, List, [], ◌∷◌, Option, Some, None, option_and_then, slice_set}
use Rattle.mg_word.specs.Words.{numbered}
use Rattle.tree_board.specs.Boards.{Board, Kept}
use Rattle.tree_board.specs.Nodes.{Node}
use Rattle.tree_board.specs.Splits.{one_if}
use Rattle.board_tree.specs.Used.{is_used}

-- of kept lemmas that are numbered from there: whether each is used
abbrev pub marks_from : List Node → ℕ → List Kept → List Bool
marks_from nodes number [] = []
marks_from nodes number (one ∷ more) = is_used nodes number ∷ marks_from nodes (suc number) more

-- the marks with one more, that of the lemma with this number
abbrev pub with_mark : List Bool → Option ℕ → List Bool
with_mark marks None = marks
with_mark marks (Some zero) = marks
with_mark marks (Some (suc index)) = slice_set marks index true

-- a number for each mark that is set, behind so many
abbrev pub names_after : ℕ → List Bool → List (Option ℕ)
names_after count [] = []
names_after count (mark ∷ marks) = (if mark then Some (suc count) else None) ∷ names_after (one_if mark + count) marks

-- for each kept lemma its new number, where it is used
abbrev pub names_of : Board → List (Option ℕ)
names_of board = names_after 0 (marks_from board.nodes 1 board.kept)

-- what the table has for the lemma with this number
abbrev pub name_in : List (Option ℕ) → ℕ → Option ℕ
name_in names lemma = option_and_then (λ name. name) (numbered names lemma)
