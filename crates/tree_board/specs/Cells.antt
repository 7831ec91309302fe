-- Cells, which have no literals, and the nodes that they stand for.
use Rattle.std.specs.Prelude.{◌≡◌, ℕ, suc, is_some, List, [], ◌∷◌, map, Some, slice_get}
use Rattle.mg_meaning.specs.Folding.{Pair}
use Rattle.case_split.specs.declared.child.Closure.{Closure}
use Rattle.tree_board.specs.declared.cell.Cell.{Cell}
use Rattle.tree_board.specs.declared.cell.Settled.{Settled}
use Rattle.tree_board.specs.declared.cell.Settled.TheVariants.{Open as OpenCell, Split as SplitCell, Rejected as RejectedCell, ByLemma as LemmaCell, AtOnce, Found as FoundCell, Covered as CoveredCell, Heavy as HeavyCell}
use Rattle.tree_board.specs.declared.event.Event.{Event}
use Rattle.tree_board.specs.declared.event.Event.TheVariants.{Extend, Reject, Heavy as TooHeavy}
use Rattle.tree_board.specs.NodeStates.{NodeState, Open, Split, Rejected, Settled as SettledBy, Shut, Found, Covered, Heavy}
use Rattle.tree_board.specs.Nodes.{Node}
use Rattle.tree_board.specs.Boards.{Kept, Board}
use Rattle.tree_board.specs.Readers.{own_number}

-- the parent's number on a path, or 0 for the root
abbrev pub parent_of : List ℕ → ℕ
parent_of [] = 0
parent_of (number ∷ []) = 0
parent_of (number ∷ parent ∷ above) = parent

-- the journal has the event at that place
abbrev pub HasEventAt : List Event → ℕ → Event → Type 0
HasEventAt journal place event = slice_get journal place ≡ Some event

-- what settled a node, by its state
abbrev pub StandsForState : List Event → List Closure → ℕ → Settled → NodeState → Type 0
StandsForState journal closures number settled Open = settled ≡ OpenCell
StandsForState journal closures number settled (Split inst first) = (event : ℕ) × (settled ≡ SplitCell event first) × HasEventAt journal event (Extend number inst)
StandsForState journal closures number settled (Rejected inst) = (event : ℕ) × (settled ≡ RejectedCell event) × HasEventAt journal event (Reject number inst)
StandsForState journal closures number settled (SettledBy lemma) = settled ≡ LemmaCell lemma
StandsForState journal closures number settled (Shut closure) = (place : ℕ) × (settled ≡ AtOnce place) × (slice_get closures place ≡ Some closure)
StandsForState journal closures number settled Found = settled ≡ FoundCell
StandsForState journal closures number settled (Covered by) = settled ≡ CoveredCell by
StandsForState journal closures number settled (Heavy inst) = (event : ℕ) × (settled ≡ HeavyCell event) × HasEventAt journal event (TooHeavy number inst)

-- a cell and the node with this number
pub record StandsFor (journal : List Event) (closures : List Closure) (kept : List Kept) (number : ℕ) (cell : Cell) (node : Node) : Type 0 where
  pub parent : cell.parent ≡ parent_of node.path
  pub settled : StandsForState journal closures number cell.settled node.state
  pub closed : cell.is_closed ≡ is_some node.own
  pub lemma : cell.lemma ≡ node.own
  pub own : cell.own_lemma ≡ own_number kept number

-- a cell for each node, numbered from there
abbrev pub StandForNodes : List Event → List Closure → List Kept → ℕ → List Cell → List Node → Type 0
StandForNodes journal closures kept number [] [] = Unit {0}
StandForNodes journal closures kept number (cell ∷ cells) (node ∷ nodes) = StandsFor journal closures kept number cell node × StandForNodes journal closures kept (suc number) cells nodes
StandForNodes journal closures kept number [] (node ∷ nodes) = ⊥
StandForNodes journal closures kept number (cell ∷ cells) [] = ⊥

-- the cells and the kept lemmas stand for the board that the journal leaves
pub record StandForBoard (journal : List Event) (board : Board) (cells : List Cell) (closures : List Closure) (lemmas : List Pair) (lemma_nodes : List ℕ) : Type 0 where
  pub nodes : StandForNodes journal closures board.kept 0 cells board.nodes
  pub pairs : lemmas ≡ map (λ one. one.pair) board.kept
  pub owners : lemma_nodes ≡ map (λ one. one.node) board.kept
