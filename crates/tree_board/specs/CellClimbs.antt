-- Closings upwards, of the cells and the kept lemmas.
use Rattle.std.specs.Prelude.{◌≡◌, ◌<◌, ◌≤◌, ◌+◌, ℕ, suc, nat_eq, cond, Bool, true, false, List, [], ◌∷◌, ◌++◌, length, slice_get, slice_set, Option, Some, None, option_map, option_and_then}
use Rattle.mg_word.specs.declared.form.Inst.{Inst}
use Rattle.mg_word.specs.declared.lit.Lit.{Lit}
use Rattle.mg_meaning.specs.Folding.{Pair, folded}
use Rattle.case_split.specs.declared.child.Closure.{Closure}
use Rattle.branch_lemmas.specs.declared.index.TheConstants.{MOST_LEMMAS}
use Rattle.tree_board.specs.Boards.{Board}
use Rattle.tree_board.specs.CellMoves.{grown}
use Rattle.tree_board.specs.Cells.{StandForBoard}
use Rattle.tree_board.specs.Closings.{climb, cons_pair}
use Rattle.tree_board.specs.Facts.{IsBoard}
use Rattle.tree_board.specs.Nodes.{Node}
use Rattle.tree_board.specs.Readers.{first_child_of_cell, instance_shown}
use Rattle.tree_board.specs.Searches.{Search, setting_of}
use Rattle.tree_board.specs.Settings.{small}
use Rattle.tree_board.specs.declared.cell.Cell.{Cell}
use Rattle.tree_board.specs.declared.cell.Settled.{Settled}
use Rattle.tree_board.specs.declared.cell_climb.Before.{Before}
use Rattle.tree_board.specs.declared.event.Event.{Event}

-- ---- closing one cell

-- the lemmas of the cells for these conclusions, numbered from there, where each has one
abbrev pub lemmas_from : List Cell → ℕ → List Lit → Option (List Pair)
lemmas_from cells first [] = Some []
lemmas_from cells first (lit ∷ lits) = cons_pair (option_and_then (λ (cell : Cell). cell.lemma) (slice_get cells first)) (lemmas_from cells (suc first) lits)

-- the number of the first child of a split cell that is not closed
abbrev pub unclosed_first : Cell → Option ℕ
unclosed_first cell = cond cell.is_closed None (first_child_of_cell cell.settled)

-- what the instance folds from the lemmas of the children
abbrev pub folded_from : List Cell → ℕ → Inst → Option Pair
folded_from cells first inst = option_map (folded inst) (lemmas_from cells first inst.conclusions)

-- the lemma of the cell with this number, where it can be closed
abbrev pub due_cell : List Cell → List Event → ℕ → Option Pair
due_cell cells journal number = option_and_then (λ first. option_and_then (folded_from cells first) (instance_shown cells journal number)) (option_and_then unclosed_first (slice_get cells number))

-- a cell, closed with this lemma, which is kept under that number
abbrev pub closed_cell : Pair → Option ℕ → Cell → Cell
closed_cell pair number cell = record { parent = cell.parent; settled = cell.settled; is_closed = true; lemma = Some pair; own_lemma = number }

-- the cells with that one closed
abbrev pub AreClosed : List Cell → ℕ → Pair → Option ℕ → List Cell → Type 0
AreClosed old number pair own new = (cell : Cell) → slice_get old number ≡ Some cell → new ≡ slice_set old number (closed_cell pair own cell)

-- a list with one more, where it is kept
abbrev pub with_if : {X : Type 0} → Bool → List X → X → List X
with_if true xs x = xs ++ x ∷ []
with_if false xs x = xs

-- the number of the next one of so many, where it is kept
abbrev pub number_if : Bool → ℕ → Option ℕ
number_if true size = Some (suc size)
number_if false size = None

-- the cell with this number is closed with this lemma, which is kept if it is small
abbrev pub CloseBy : Option Pair → ℕ → List Cell → List Pair → List ℕ → List Cell → List Pair → List ℕ → Type 0
CloseBy None number cells lemmas owners new_cells new_lemmas new_owners = (new_cells ≡ cells) × (new_lemmas ≡ lemmas) × (new_owners ≡ owners)
CloseBy (Some pair) number cells lemmas owners new_cells new_lemmas new_owners =
    AreClosed cells number pair (number_if (small (length lemmas) number pair) (length lemmas)) new_cells
    × (new_lemmas ≡ with_if (small (length lemmas) number pair) lemmas pair)
    × (new_owners ≡ with_if (small (length lemmas) number pair) owners number)

-- ---- the climb

-- the number of the parent of a closed cell other than the root's
abbrev pub up_from : ℕ → Cell → Option ℕ
up_from number cell = cond (nat_eq number 0) None (cond cell.is_closed (Some cell.parent) None)

abbrev pub next_up : List Cell → ℕ → Option ℕ
next_up cells number = option_and_then (up_from number) (slice_get cells number)

-- the same where so many lemmas were kept before, and these lemmas, of these nodes, are to be kept after them
abbrev pub Closes : List Event → ℕ → ℕ → List Cell → List Pair → List ℕ → List Cell → List Pair → List ℕ → Type 0
Closes journal number count cells more nodes new_cells new_more new_nodes =
    (lemmas : List Pair) (owners : List ℕ) → length lemmas ≡ count → CloseBy (due_cell cells journal number) number cells (lemmas ++ more) (owners ++ nodes) new_cells (lemmas ++ new_more) (owners ++ new_nodes)

-- where so many lemmas were kept before and any is to be kept after them, there are not too many together
abbrev pub AreFew : ℕ → List Pair → Type 0
AreFew count more = 0 < length more → count + length more ≤ MOST_LEMMAS

-- the cells with those put back that the climb replaced, the last one first
abbrev pub restored : List Before → List Cell → List Cell
restored [] cells = cells
restored (one ∷ more) cells = slice_set (restored more cells) one.node one.cell

-- some board with a node of this number is what the cells and the kept lemmas stand for
pub record StandSomewhere (journal : List Event) (number : ℕ) (cells : List Cell) (lemmas : List Pair) (owners : List ℕ) : Type 0 where
  pub search : Search
  pub board : Board
  pub node : Node
  pub closures : List Closure
  pub facts : IsBoard (setting_of search) board
  pub is : slice_get board.nodes number ≡ Some node
  pub stand : StandForBoard journal board cells closures lemmas owners

-- whatever board they stand for, they then stand for the one after the climb from the node with this number
abbrev pub Climbs : List Event → ℕ → List Cell → List Pair → List ℕ → List Cell → List Pair → List ℕ → Type 0
Climbs journal number cells lemmas owners new_cells new_lemmas new_owners =
    (search : Search) (board : Board) (node : Node) (closures : List Closure) → IsBoard (setting_of search) board → slice_get board.nodes number ≡ Some node → StandForBoard journal board cells closures lemmas owners
    → StandForBoard journal (climb (setting_of search) node.path board) new_cells closures new_lemmas new_owners

-- the same where so many lemmas were kept before, and these lemmas, of these nodes, are to be kept after them
pub record StandsOn (journal : List Event) (number count : ℕ) (cells : List Cell) (more : List Pair) (nodes : List ℕ) : Type 0 where
  pub lemmas : List Pair
  pub owners : List ℕ
  pub size : length lemmas ≡ count
  pub some : StandSomewhere journal number cells (lemmas ++ more) (owners ++ nodes)

abbrev pub ClimbsOn : List Event → ℕ → ℕ → List Cell → List Pair → List ℕ → List Cell → List Pair → List ℕ → Type 0
ClimbsOn journal number count cells more nodes new_cells new_more new_nodes =
    (lemmas : List Pair) (owners : List ℕ) → length lemmas ≡ count → Climbs journal number cells (lemmas ++ more) (owners ++ nodes) new_cells (lemmas ++ new_more) (owners ++ new_nodes)

-- ---- a whole event

-- with the node settled and its children added, some board is what the cells and the kept lemmas stand for
abbrev pub StandGrown : List Event → ℕ → List Cell → Settled → Option Pair → List Cell → List Pair → List ℕ → Type 0
StandGrown journal number cells settled lemma children lemmas owners = (cell : Cell) → slice_get cells number ≡ Some cell → StandSomewhere journal number (grown cells number settled lemma cell children) lemmas owners

-- and then they are climbed
abbrev pub Grow : List Event → ℕ → List Cell → Settled → Option Pair → List Cell → List Pair → List ℕ → List Cell → List Pair → List ℕ → Type 0
Grow journal number cells settled lemma children lemmas owners new_cells new_lemmas new_owners =
    (cell : Cell) → slice_get cells number ≡ Some cell → Climbs journal number (grown cells number settled lemma cell children) lemmas owners new_cells new_lemmas new_owners
