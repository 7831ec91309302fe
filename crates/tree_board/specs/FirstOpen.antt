-- The first open node, found by a walk down the tree.
use Rattle.std.specs.Prelude.{ℕ, List, None, Option, Some, [], length, slice_get, suc, zero, ◌↔◌, ◌∷◌, ◌≡◌}
use Rattle.mg_word.specs.Facts.{IsProblem}
use Rattle.mg_word.specs.declared.lit.Lit.{Lit}
use Rattle.tree_board.specs.Boards.{Board}
use Rattle.tree_board.specs.Lawful.{IsReplay}
use Rattle.tree_board.specs.NodeStates.{Covered, Found, Heavy, NodeState, Open, Rejected, Settled, Shut, Split}
use Rattle.tree_board.specs.Nodes.{Node}
use Rattle.tree_board.specs.Settings.{Setting}
use Rattle.tree_board.specs.TreeOrder.{IsFirstOpen}

-- the first of two that is there
abbrev pub first_of : Option ℕ → Option ℕ → Option ℕ
first_of None other = other
first_of (Some number) other = Some number

-- that of the children for these conclusions, numbered from there
abbrev pub first_among : (ℕ → Option ℕ) → ℕ → List Lit → Option ℕ
first_among go first [] = None
first_among go first (lit ∷ more) = first_of (go first) (first_among go (suc first) more)

-- an open node itself; of a split one, that of its children
abbrev pub first_by : (ℕ → Option ℕ) → ℕ → NodeState → Option ℕ
first_by go number Open = Some number
first_by go number (Split inst first) = first_among go first inst.conclusions
first_by go number (Rejected inst) = None
first_by go number (Settled lemma) = None
first_by go number (Shut closure) = None
first_by go number Found = None
first_by go number (Covered by) = None
first_by go number (Heavy inst) = None

abbrev pub first_at : (ℕ → Option ℕ) → ℕ → Option Node → Option ℕ
first_at go number None = None
first_at go number (Some node) = first_by go number node.state

-- at the node and below it; children have greater numbers, so that the number of nodes is enough fuel
unfoldable pub first_open_from : List Node → ℕ → ℕ → Option ℕ
first_open_from nodes zero number = None
first_open_from nodes (suc fuel) number = first_at (λ n. first_open_from nodes fuel n) number (slice_get nodes number)

abbrev pub first_open : Board → Option ℕ
first_open board = first_open_from board.nodes (length board.nodes) 0

-- the walk finds exactly the first open node in tree order
abbrev pub WalkFindsFirst : Type 0
WalkFindsFirst = (setting : Setting) (board : Board) → IsProblem setting.problem → IsReplay setting board → (number : ℕ) → first_open board ≡ Some number ↔ IsFirstOpen board number
