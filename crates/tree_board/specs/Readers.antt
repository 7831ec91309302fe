-- What a node shows to callers, and what a cell shows of it.
use Rattle.std.specs.List.{position}
use Rattle.std.specs.Prelude.{ℕ, suc, ◌+◌, ◌-◌, nat_eq, nat_lt, cond, Bool, true, false, List, Option, Some, None, option_map, option_and_then, slice_get}
use Rattle.mg_word.specs.Words.{numbered}
use Rattle.mg_word.specs.declared.form.Inst.{Inst}
use Rattle.mg_word.specs.declared.lit.Lit.{Lit}
use Rattle.case_split.specs.declared.child.Closure.{Closure}
use Rattle.tree_board.specs.declared.cell.Cell.{Cell}
use Rattle.tree_board.specs.declared.cell.Settled.{Settled}
use Rattle.tree_board.specs.declared.cell.Settled.TheVariants.{Open as OpenCell, Split as SplitCell, Rejected as RejectedCell, ByLemma as LemmaCell, AtOnce, Found as FoundCell, Covered as CoveredCell, Heavy as HeavyCell}
use Rattle.tree_board.specs.declared.event.Event.{Event}
use Rattle.tree_board.specs.declared.event.Event.TheVariants.{Extend, Reject, ByLemma, Saturated, Covered as CoveredBy, Heavy as TooHeavy}
use Rattle.tree_board.specs.declared.node.NodeKind.{NodeKind}
use Rattle.tree_board.specs.declared.node.NodeKind.TheVariants.{Open as OpenKind, Split as SplitKind, Closed, Found as FoundKind, Covered as CoveredKind, Heavy as HeavyKind}
use Rattle.tree_board.specs.Boards.{Kept}
use Rattle.tree_board.specs.NodeStates.{NodeState, Open, Split, Rejected, Settled as SettledBy, Shut, Found, Covered, Heavy}
use Rattle.tree_board.specs.Nodes.{Node}

-- the instance that split or rejected a node, or was too heavy
abbrev pub instance_of : NodeState → Option Inst
instance_of (Split inst first) = Some inst
instance_of (Rejected inst) = Some inst
instance_of (Heavy inst) = Some inst
instance_of Open = None
instance_of (SettledBy lemma) = None
instance_of (Shut closure) = None
instance_of Found = None
instance_of (Covered by) = None

-- the number of the first child of a split node
abbrev pub first_child_of : NodeState → Option ℕ
first_child_of (Split inst first) = Some first
first_child_of Open = None
first_child_of (Rejected inst) = None
first_child_of (SettledBy lemma) = None
first_child_of (Shut closure) = None
first_child_of Found = None
first_child_of (Covered by) = None
first_child_of (Heavy inst) = None

-- the number of the lemma that settled a node
abbrev pub lemma_by : NodeState → Option ℕ
lemma_by (SettledBy lemma) = Some lemma
lemma_by Open = None
lemma_by (Split inst first) = None
lemma_by (Rejected inst) = None
lemma_by (Shut closure) = None
lemma_by Found = None
lemma_by (Covered by) = None
lemma_by (Heavy inst) = None

-- why a node was closed at once
abbrev pub closure_at : NodeState → Option Closure
closure_at (Shut closure) = Some closure
closure_at Open = None
closure_at (Split inst first) = None
closure_at (Rejected inst) = None
closure_at (SettledBy lemma) = None
closure_at Found = None
closure_at (Covered by) = None
closure_at (Heavy inst) = None

-- what the state of the node with this number shows
abbrev pub shown : {X : Type 0} → (NodeState → Option X) → List Node → ℕ → Option X
shown show nodes number = option_and_then (λ (node : Node). show node.state) (slice_get nodes number)

-- the number of the kept lemma of a node, if one of it is kept
abbrev pub own_number : List Kept → ℕ → Option ℕ
own_number kept number = option_map (λ index. suc index) (position (λ one. nat_eq one.node number) kept)

-- the node of the kept lemma with this number
abbrev pub lemma_node_at : List Kept → ℕ → Option ℕ
lemma_node_at kept number = option_map (λ one. one.node) (numbered kept number)

-- the literals of the node with this number, in path order
abbrev pub lits_of : List Node → ℕ → Option (List Lit)
lits_of nodes number = option_map (λ (node : Node). node.lits) (slice_get nodes number)

-- ---- the same of cells

-- the instance of an event
abbrev pub instance_in : Event → Option Inst
instance_in (Extend node inst) = Some inst
instance_in (Reject node inst) = Some inst
instance_in (TooHeavy node inst) = Some inst
instance_in (ByLemma node lemma) = None
instance_in (Saturated node) = None
instance_in (CoveredBy node by) = None

abbrev pub event_of_cell : Settled → Option ℕ
event_of_cell (SplitCell event first) = Some event
event_of_cell (RejectedCell event) = Some event
event_of_cell (HeavyCell event) = Some event
event_of_cell OpenCell = None
event_of_cell (LemmaCell lemma) = None
event_of_cell (AtOnce closure) = None
event_of_cell FoundCell = None
event_of_cell (CoveredCell by) = None

abbrev pub first_child_of_cell : Settled → Option ℕ
first_child_of_cell (SplitCell event first) = Some first
first_child_of_cell OpenCell = None
first_child_of_cell (RejectedCell event) = None
first_child_of_cell (LemmaCell lemma) = None
first_child_of_cell (AtOnce closure) = None
first_child_of_cell FoundCell = None
first_child_of_cell (CoveredCell by) = None
first_child_of_cell (HeavyCell event) = None

abbrev pub lemma_of_cell : Settled → Option ℕ
lemma_of_cell (LemmaCell lemma) = Some lemma
lemma_of_cell OpenCell = None
lemma_of_cell (SplitCell event first) = None
lemma_of_cell (RejectedCell event) = None
lemma_of_cell (AtOnce closure) = None
lemma_of_cell FoundCell = None
lemma_of_cell (CoveredCell by) = None
lemma_of_cell (HeavyCell event) = None

abbrev pub closure_of_cell : Settled → Option ℕ
closure_of_cell (AtOnce closure) = Some closure
closure_of_cell OpenCell = None
closure_of_cell (SplitCell event first) = None
closure_of_cell (RejectedCell event) = None
closure_of_cell (LemmaCell lemma) = None
closure_of_cell FoundCell = None
closure_of_cell (CoveredCell by) = None
closure_of_cell (HeavyCell event) = None

abbrev pub kind_of_cell : Bool → Settled → NodeKind
kind_of_cell true settled = Closed
kind_of_cell false OpenCell = OpenKind
kind_of_cell false (SplitCell event first) = SplitKind
kind_of_cell false (RejectedCell event) = Closed
kind_of_cell false (LemmaCell lemma) = Closed
kind_of_cell false (AtOnce closure) = Closed
kind_of_cell false FoundCell = FoundKind
kind_of_cell false (CoveredCell by) = CoveredKind
kind_of_cell false (HeavyCell event) = HeavyKind

-- what the cell with this number shows
abbrev pub cell_shows : {X : Type 0} → (Settled → Option X) → List Cell → ℕ → Option X
cell_shows show cells number = option_and_then (λ (cell : Cell). show cell.settled) (slice_get cells number)

-- the instance of the cell with this number
abbrev pub instance_shown : List Cell → List Event → ℕ → Option Inst
instance_shown cells journal number = option_and_then (λ event. option_and_then instance_in (slice_get journal event)) (cell_shows event_of_cell cells number)

-- the conclusion of the instance for the child with this number, where the first child has that one
abbrev pub case_in : Inst → ℕ → ℕ → Option Lit
case_in inst first number = cond (nat_lt number first) None (slice_get inst.conclusions (number - first))

-- what the parent's event gives a node
abbrev pub literal_from : List Cell → List Event → ℕ → ℕ → Option Lit
literal_from cells journal number parent = option_and_then (λ first. option_and_then (λ inst. case_in inst first number) (instance_shown cells journal parent)) (cell_shows first_child_of_cell cells parent)

-- the literal of the node with this number; the root has none
abbrev pub literal_in : List Cell → List Event → ℕ → Option Lit
literal_in cells journal number = cond (nat_eq number 0) None (option_and_then (λ (cell : Cell). literal_from cells journal number cell.parent) (slice_get cells number))

-- the number after that one, where its cell has the same parent
abbrev pub sibling_in : List Cell → ℕ → Option ℕ
sibling_in cells number = option_and_then (λ (other : Cell). option_and_then (λ (one : Cell). cond (nat_eq other.parent one.parent) (Some (number + 1)) None) (slice_get cells number)) (slice_get cells (number + 1))
