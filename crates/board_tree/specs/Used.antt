-- The lemmas that the document of a board needs, and their new numbers.
use Rattle.std.specs.List.{list_any}
use Rattle.std.specs.Prelude.{ℕ, zero, suc, ◌+◌, nat_eq, if◌then◌else◌, Bool, false, List, [], ◌∷◌, Option, Some, None}
use Rattle.tree_board.specs.Boards.{Kept}
use Rattle.tree_board.specs.Nodes.{Node}
use Rattle.tree_board.specs.Readers.{lemma_by}
use Rattle.tree_board.specs.Splits.{one_if}

-- the number is that one, where there is one
abbrev pub is_number : ℕ → Option ℕ → Bool
is_number number None = false
is_number number (Some other) = nat_eq other number

-- a used lemma settled some node
abbrev pub is_used : List Node → ℕ → Bool
is_used nodes lemma = list_any (λ (node : Node). is_number lemma (lemma_by node.state)) nodes

-- the new number of a used lemma: how many used ones there are up to it
abbrev pub new_number : List Node → ℕ → ℕ
new_number nodes zero = 0
new_number nodes (suc lemma) = one_if (is_used nodes (suc lemma)) + new_number nodes lemma

-- of kept lemmas that are numbered from there, those that are used
abbrev pub used_from : List Node → ℕ → List Kept → List Kept
used_from nodes number [] = []
used_from nodes number (one ∷ more) = if is_used nodes number then one ∷ used_from nodes (suc number) more else used_from nodes (suc number) more
