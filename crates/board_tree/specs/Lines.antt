-- The lines of the trees of closed nodes.
use Rattle.std.specs.List.{flat_map}
use Rattle.std.specs.Prelude.{ℕ, zero, suc, if◌then◌else◌, List, [], ◌∷◌, length, Option, Some, None, slice_get}
use Rattle.mg_word.specs.declared.lit.Lit.{Lit}
use Rattle.case_split.specs.declared.child.Closure.{Closure}
use Rattle.case_split.specs.declared.child.Closure.TheVariants.{Clash as ClashAtOnce, Barred as BarredAtOnce}
use Rattle.tree_board.specs.Boards.{Board}
use Rattle.tree_board.specs.NodeStates.{NodeState, Open, Split, Rejected, Settled, Shut, Found, Covered, Heavy}
use Rattle.tree_board.specs.Nodes.{Node}
use Rattle.tree_board.specs.Readers.{own_number}
use Rattle.tree_checker.specs.declared.doc.TreeLine.{TreeLine}
use Rattle.tree_checker.specs.declared.doc.TreeLine.TheVariants.{Form as FormLine, Clash, Barred, By}
use Rattle.board_tree.specs.Used.{is_used, new_number}

-- the line of a node that was closed at once
abbrev pub closure_line : Closure → TreeLine
closure_line (ClashAtOnce lit) = Clash lit
closure_line (BarredAtOnce lit) = Barred lit

-- the line of a node in this state, where it may be closed
abbrev pub line_of : List Node → NodeState → Option TreeLine
line_of nodes (Split inst first) = Some (FormLine inst.form inst.subst)
line_of nodes (Rejected inst) = Some (FormLine inst.form inst.subst)
line_of nodes (Settled lemma) = Some (By (new_number nodes lemma))
line_of nodes (Shut closure) = Some (closure_line closure)
line_of nodes Open = None
line_of nodes Found = None
line_of nodes (Covered by) = None
line_of nodes (Heavy inst) = None

-- a number for each conclusion, from there
abbrev pub numbers_from : ℕ → List Lit → List ℕ
numbers_from first [] = []
numbers_from first (lit ∷ more) = first ∷ numbers_from (suc first) more

-- the children of a node in this state, in order
abbrev pub kids_of : NodeState → List ℕ
kids_of (Split inst first) = numbers_from first inst.conclusions
kids_of (Rejected inst) = []
kids_of (Settled lemma) = []
kids_of (Shut closure) = []
kids_of Open = []
kids_of Found = []
kids_of (Covered by) = []
kids_of (Heavy inst) = []

-- the new number of a lemma, where there is one and it is used
abbrev pub used_number : List Node → Option ℕ → Option ℕ
used_number nodes None = None
used_number nodes (Some lemma) = if is_used nodes lemma then Some (new_number nodes lemma) else None

-- the new number of the node's own lemma, where that is used
abbrev pub name_of : Board → ℕ → Option ℕ
name_of board number = used_number board.nodes (own_number board.kept number)

-- a line before others, where there is one
abbrev pub before : Option TreeLine → List TreeLine → List TreeLine
before None lines = []
before (Some line) lines = line ∷ lines

-- the node in place: its line, and then those of its children
abbrev pub in_place : Board → (ℕ → List TreeLine) → Option Node → List TreeLine
in_place board below None = []
in_place board below (Some node) = before (line_of board.nodes node.state) (flat_map below (kids_of node.state))

-- the lemma with that number in the node's stead, where it has one
abbrev pub by_name : Board → (ℕ → List TreeLine) → ℕ → Option ℕ → List TreeLine
by_name board below number (Some new) = By new ∷ []
by_name board below number None = in_place board below (slice_get board.nodes number)

-- the lines of a node within a tree; children have greater numbers, so that the number of nodes is enough fuel
unfoldable pub lines_from : Board → ℕ → ℕ → List TreeLine
lines_from board zero number = []
lines_from board (suc fuel) number = by_name board (λ n. lines_from board fuel n) number (name_of board number)

abbrev pub lines_within : Board → ℕ → List TreeLine
lines_within board number = lines_from board (length board.nodes) number

-- the lines of a node's own tree: the node stands in place, whether its lemma is used or not
abbrev pub lines_of : Board → ℕ → List TreeLine
lines_of board top = in_place board (λ n. lines_within board n) (slice_get board.nodes top)
