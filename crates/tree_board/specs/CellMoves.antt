-- An event's move, of the cells.
use Rattle.std.specs.Prelude.{◌≡◌, ℕ, suc, true, false, List, [], ◌∷◌, ◌++◌, is_some, map, slice_get, slice_set, Option, Some, None}
use Rattle.mg_word.specs.Words.{numbered}
use Rattle.mg_word.specs.declared.lit.Lit.{Lit}
use Rattle.mg_meaning.specs.Folding.{Pair, rejecting}
use Rattle.case_split.specs.declared.child.Child.{Child}
use Rattle.case_split.specs.declared.child.Closure.{Closure}
use Rattle.case_split.specs.Splitting.{children_of as cases_of}
use Rattle.branch_lemmas.specs.Leaves.{lemma_of}
use Rattle.tree_board.specs.Boards.{Board}
use Rattle.tree_board.specs.Events.{node_of}
use Rattle.tree_board.specs.Nodes.{Node}
use Rattle.tree_board.specs.declared.cell.Cell.{Cell}
use Rattle.tree_board.specs.declared.cell.Settled.{Settled}
use Rattle.tree_board.specs.declared.cell.Settled.TheVariants.{Open as OpenCell, Split as SplitCell, Rejected as RejectedCell, ByLemma as LemmaCell, AtOnce, Found as FoundCell, Covered as CoveredCell, Heavy as HeavyCell}
use Rattle.tree_board.specs.declared.event.Event.{Event}
use Rattle.tree_board.specs.declared.event.Event.TheVariants.{ByLemma, Covered as CoveredBy, Extend, Heavy as TooHeavy, Reject, Saturated}

-- ---- the settled cell

-- what settles the cell, where the journal has so many events and the board so many nodes before
abbrev pub settled_as : ℕ → ℕ → Event → Settled
settled_as events nodes (Extend number inst) = SplitCell events nodes
settled_as events nodes (Reject number inst) = RejectedCell events
settled_as events nodes (ByLemma number lemma) = LemmaCell lemma
settled_as events nodes (Saturated number) = FoundCell
settled_as events nodes (CoveredBy number cover) = CoveredCell cover
settled_as events nodes (TooHeavy number inst) = HeavyCell events

-- the lemma of a node that the event closes, where these are kept
abbrev pub lemma_made : List Pair → Event → Option Pair
lemma_made lemmas (Extend number inst) = None
lemma_made lemmas (Reject number inst) = Some (rejecting inst)
lemma_made lemmas (ByLemma number lemma) = numbered lemmas lemma
lemma_made lemmas (Saturated number) = None
lemma_made lemmas (CoveredBy number cover) = None
lemma_made lemmas (TooHeavy number inst) = None

-- a cell, settled, and closed where there is a lemma
abbrev pub settled_cell : Settled → Option Pair → Cell → Cell
settled_cell settled lemma cell = record { parent = cell.parent; settled = settled; is_closed = is_some lemma; lemma = lemma; own_lemma = cell.own_lemma }

-- ---- the cells of the children

-- the cell of a child, whose reason to be closed at once goes to that place
abbrev pub born_cell : ℕ → ℕ → Option Closure → Cell
born_cell parent place None = record { parent = parent; settled = OpenCell; is_closed = false; lemma = None; own_lemma = None }
born_cell parent place (Some closure) = record { parent = parent; settled = AtOnce place; is_closed = true; lemma = Some (lemma_of closure); own_lemma = None }

abbrev pub place_after : ℕ → Option Closure → ℕ
place_after place None = place
place_after place (Some closure) = suc place

-- the cells of children, by why they are closed at once if they are
abbrev pub cells_by : ℕ → ℕ → List (Option Closure) → List Cell
cells_by parent place [] = []
cells_by parent place (one ∷ more) = born_cell parent place one ∷ cells_by parent (place_after place one) more

abbrev pub with_closure : Option Closure → List Closure → List Closure
with_closure None closures = closures
with_closure (Some closure) closures = closure ∷ closures

-- those that there are
abbrev pub closures_by : List (Option Closure) → List Closure
closures_by [] = []
closures_by (one ∷ more) = with_closure one (closures_by more)

-- why the cases are closed at once, of each that is
abbrev pub reasons_of : List Child → List (Option Closure)
reasons_of cases = map (λ one. one.at_once) cases

abbrev pub cells_of_cases : ℕ → ℕ → List Child → List Cell
cells_of_cases parent place cases = cells_by parent place (reasons_of cases)

abbrev pub closures_of : List Child → List Closure
closures_of cases = closures_by (reasons_of cases)

-- the cases that the event makes of a node with these literals and this barred set
abbrev pub cases_made : List Lit → List Lit → Event → List Child
cases_made lits barred (Extend number inst) = cases_of lits barred inst.conclusions
cases_made lits barred (Reject number inst) = []
cases_made lits barred (ByLemma number lemma) = []
cases_made lits barred (Saturated number) = []
cases_made lits barred (CoveredBy number cover) = []
cases_made lits barred (TooHeavy number inst) = []

-- the cases that the event makes at its node
abbrev pub AreCases : Board → Event → List Child → Type 0
AreCases board event cases = (node : Node) → slice_get board.nodes (node_of event) ≡ Some node → cases ≡ cases_made node.lits node.barred event

-- the cells with that one settled and those of its children added
abbrev pub grown : List Cell → ℕ → Settled → Option Pair → Cell → List Cell → List Cell
grown cells number settled lemma cell children = slice_set (cells ++ children) number (settled_cell settled lemma cell)

-- why the cases that the event makes at its node are closed at once, of each that is
abbrev pub AreReasons : Board → Event → List (Option Closure) → Type 0
AreReasons board event reasons = (node : Node) → slice_get board.nodes (node_of event) ≡ Some node → reasons ≡ reasons_of (cases_made node.lits node.barred event)
