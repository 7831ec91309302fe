-- The children of a node that an instance splits, as nodes.
use Rattle.std.specs.Prelude.{ℕ, suc, List, [], ◌∷◌, ◌++◌, Option, Some, None, option_map}
use Rattle.mg_word.specs.declared.lit.Lit.{Lit}
use Rattle.case_split.specs.declared.child.Child.{Child}
use Rattle.case_split.specs.declared.child.Closure.{Closure}
use Rattle.case_split.specs.Splitting.{children_of as cases_of}
use Rattle.branch_lemmas.specs.Leaves.{lemma_of}
use Rattle.tree_board.specs.NodeStates.{NodeState, Open, Shut}
use Rattle.tree_board.specs.Nodes.{Node}

-- a child is open but where it is closed at once
abbrev pub state_at_birth : Option Closure → NodeState
state_at_birth None = Open
state_at_birth (Some closure) = Shut closure

-- a case of a split as the node with this number, below the node of that path and those literals
abbrev pub node_of_case : ℕ → List ℕ → List Lit → Child → Node
node_of_case number path lits one = record {
  path = number ∷ path;
  lits = lits ++ one.lit ∷ [];
  barred = one.barred;
  state = state_at_birth one.at_once;
  own = option_map lemma_of one.at_once;
}

-- the cases as nodes that are numbered from there
abbrev pub nodes_of_cases : ℕ → List ℕ → List Lit → List Child → List Node
nodes_of_cases number path lits [] = []
nodes_of_cases number path lits (one ∷ more) = node_of_case number path lits one ∷ nodes_of_cases (suc number) path lits more

-- one child per conclusion, numbered from there
abbrev pub children_of : ℕ → List ℕ → List Lit → List Lit → List Lit → List Node
children_of number path lits barred conclusions = nodes_of_cases number path lits (cases_of lits barred conclusions)
