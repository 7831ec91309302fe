-- The node of one conclusion.
use Rattle.std.proofs.Common.{ℕ, List}
use Rattle.mg_word.specs.declared.lit.Lit.{Lit}
use Rattle.case_split.specs.Splitting.{closure_of}
use Rattle.tree_board.specs.Nodes.{Node}
use Rattle.tree_board.specs.Children.{node_of_case}

-- the child with this number for this conclusion, which bars these literals
abbrev pub child : ℕ → List ℕ → List Lit → List Lit → Lit → Node
child number path lits barred lit = node_of_case number path lits (record { lit = lit; barred = barred; at_once = closure_of lits barred lit })
