-- All open nodes, in tree order.
use Rattle.std.specs.Prelude.{ℕ, Bool, List, None, Option, Some, [], false, length, nat_eq, slice_get, suc, true, zero, ◌++◌, ◌∷◌, ◌≡◌}
use Rattle.mg_word.specs.Facts.{IsProblem}
use Rattle.mg_word.specs.declared.lit.Lit.{Lit}
use Rattle.tree_board.specs.Boards.{Board}
use Rattle.tree_board.specs.Effects.{born, effect}
use Rattle.tree_board.specs.Events.{node_of}
use Rattle.tree_board.specs.FirstOpen.{first_open}
use Rattle.tree_board.specs.Lawful.{IsLawful, IsReplay}
use Rattle.tree_board.specs.NodeStates.{Covered, Found, Heavy, NodeState, Open, Rejected, Settled, Shut, Split}
use Rattle.tree_board.specs.Nodes.{Node}
use Rattle.tree_board.specs.Settings.{Setting}
use Rattle.tree_board.specs.declared.event.Event.{Event}

abbrev pub opens_among : (ℕ → List ℕ) → ℕ → List Lit → List ℕ
opens_among go first [] = []
opens_among go first (lit ∷ more) = go first ++ opens_among go (suc first) more

abbrev pub opens_by : (ℕ → List ℕ) → ℕ → NodeState → List ℕ
opens_by go number Open = number ∷ []
opens_by go number (Split inst first) = opens_among go first inst.conclusions
opens_by go number (Rejected inst) = []
opens_by go number (Settled lemma) = []
opens_by go number (Shut closure) = []
opens_by go number Found = []
opens_by go number (Covered by) = []
opens_by go number (Heavy inst) = []

abbrev pub opens_at : (ℕ → List ℕ) → ℕ → Option Node → List ℕ
opens_at go number None = []
opens_at go number (Some node) = opens_by go number node.state

unfoldable pub opens_from : List Node → ℕ → ℕ → List ℕ
opens_from nodes zero number = []
opens_from nodes (suc fuel) number = opens_at (λ n. opens_from nodes fuel n) number (slice_get nodes number)

abbrev pub open_list : Board → List ℕ
open_list board = opens_from board.nodes (length board.nodes) 0

abbrev pub head_of : List ℕ → Option ℕ
head_of [] = None
head_of (number ∷ numbers) = Some number

abbrev pub replaced_by : Bool → ℕ → List ℕ → List ℕ → List ℕ
replaced_by true number kids rest = kids ++ rest
replaced_by false number kids rest = number ∷ rest

-- the numbers with others in the place of one
abbrev pub replaced : ℕ → List ℕ → List ℕ → List ℕ
replaced number kids [] = []
replaced number kids (one ∷ more) = replaced_by (nat_eq one number) one kids (replaced number kids more)

abbrev pub open_by : NodeState → ℕ → List ℕ → List ℕ
open_by Open number more = number ∷ more
open_by (Split inst first) number more = more
open_by (Rejected inst) number more = more
open_by (Settled lemma) number more = more
open_by (Shut closure) number more = more
open_by Found number more = more
open_by (Covered by) number more = more
open_by (Heavy inst) number more = more

-- of nodes that are numbered from there, the open ones
abbrev pub open_numbers : ℕ → List Node → List ℕ
open_numbers first [] = []
open_numbers first (node ∷ nodes) = open_by node.state first (open_numbers (suc first) nodes)

-- the first open node is the head of the list; an event puts the open children in the place of its node
pub record ListsOpen (setting : Setting) (board : Board) : Type 0 where
  pub head : first_open board ≡ head_of (open_list board)
  pub more : (event : Event) → (lawful : IsLawful setting board event) → open_list (effect setting board event) ≡ replaced (node_of event) (open_numbers (length board.nodes) (born board lawful.node event)) (open_list board)

abbrev pub OpenNodesAreListed : Type 0
OpenNodesAreListed = (setting : Setting) (board : Board) → IsProblem setting.problem → IsReplay setting board → ListsOpen setting board
