-- What cells show is what their nodes show.
use Rattle.std.proofs.Common.{◌≡◌, ℕ, zero, suc, Bool, true, false, List, [], ◌∷◌, is_some, slice_get, Option, Some, None, option_map, refl, ap, ◌∙◌}
use Rattle.std.specs.Prelude.{option_and_then}
use Rattle.mg_word.specs.declared.form.Inst.{Inst}
use Rattle.mg_meaning.specs.Folding.{Pair}
use Rattle.case_split.specs.declared.child.Closure.{Closure}
use Rattle.tree_board.specs.declared.cell.Cell.{Cell}
use Rattle.tree_board.specs.declared.cell.Settled.{Settled}
use Rattle.tree_board.specs.declared.event.Event.{Event}
use Rattle.tree_board.specs.NodeStates.{NodeState, Open, Split, Rejected, Settled as SettledBy, Shut, Found, Covered, Heavy}
use Rattle.tree_board.specs.Nodes.{Node}
use Rattle.tree_board.specs.Boards.{Kept}
use Rattle.tree_board.specs.Kinds.{kind_of, kind_by}
use Rattle.tree_board.specs.Searches.{Search, board_of}
use Rattle.tree_board.specs.Cells.{StandsForState, StandsFor, StandForNodes}
use Rattle.tree_board.specs.declared.tally.Tally.{Tally}
use Rattle.tree_board.specs.Keeping.{IsKeeping}
use Rattle.tree_board.specs.Readers.{instance_of, first_child_of, lemma_by, closure_at, shown, instance_in, event_of_cell, first_child_of_cell, lemma_of_cell, closure_of_cell, kind_of_cell, cell_shows}

module _ (journal : List Event) (closures : List Closure) (kept : List Kept) where
  -- what each cell shows of its node, the cell with a number shows of the node with it
  pub seen : {X : Type 0} (f : Cell → X) (g : Node → X) → ((number : ℕ) (cell : Cell) (node : Node) → StandsFor journal closures kept number cell node → f cell ≡ g node)
      → (first : ℕ) (cells : List Cell) (nodes : List Node) → StandForNodes journal closures kept first cells nodes → (index : ℕ) → option_map f (slice_get cells index) ≡ option_map g (slice_get nodes index)
  seen f g same first [] [] stand index = refl
  seen f g same first [] (node ∷ nodes) stand index = absurd stand
  seen f g same first (cell ∷ cells) [] stand index = absurd stand
  seen f g same first (cell ∷ cells) (node ∷ nodes) (one, stand) zero = ap Some (same first cell node one)
  seen f g same first (cell ∷ cells) (node ∷ nodes) (one, stand) (suc index) = seen f g same (suc first) cells nodes stand index

  pub seen_then : {X : Type 0} (f : Cell → Option X) (g : Node → Option X) → ((number : ℕ) (cell : Cell) (node : Node) → StandsFor journal closures kept number cell node → f cell ≡ g node)
      → (first : ℕ) (cells : List Cell) (nodes : List Node) → StandForNodes journal closures kept first cells nodes → (index : ℕ) → option_and_then f (slice_get cells index) ≡ option_and_then g (slice_get nodes index)
  seen_then f g same first [] [] stand index = refl
  seen_then f g same first [] (node ∷ nodes) stand index = absurd stand
  seen_then f g same first (cell ∷ cells) [] stand index = absurd stand
  seen_then f g same first (cell ∷ cells) (node ∷ nodes) (one, stand) zero = same first cell node one
  seen_then f g same first (cell ∷ cells) (node ∷ nodes) (one, stand) (suc index) = seen_then f g same (suc first) cells nodes stand index

  pub first_child_same : (number : ℕ) (settled : Settled) (state : NodeState) → StandsForState journal closures number settled state → first_child_of_cell settled ≡ first_child_of state
  first_child_same number settled Open e = ap first_child_of_cell e
  first_child_same number settled (Split inst first) (event, e, at) = ap first_child_of_cell e
  first_child_same number settled (Rejected inst) (event, e, at) = ap first_child_of_cell e
  first_child_same number settled (SettledBy lemma) e = ap first_child_of_cell e
  first_child_same number settled (Shut closure) (place, e, at) = ap first_child_of_cell e
  first_child_same number settled Found e = ap first_child_of_cell e
  first_child_same number settled (Covered cover) e = ap first_child_of_cell e
  first_child_same number settled (Heavy inst) (event, e, at) = ap first_child_of_cell e

  pub lemma_same : (number : ℕ) (settled : Settled) (state : NodeState) → StandsForState journal closures number settled state → lemma_of_cell settled ≡ lemma_by state
  lemma_same number settled Open e = ap lemma_of_cell e
  lemma_same number settled (Split inst first) (event, e, at) = ap lemma_of_cell e
  lemma_same number settled (Rejected inst) (event, e, at) = ap lemma_of_cell e
  lemma_same number settled (SettledBy lemma) e = ap lemma_of_cell e
  lemma_same number settled (Shut closure) (place, e, at) = ap lemma_of_cell e
  lemma_same number settled Found e = ap lemma_of_cell e
  lemma_same number settled (Covered cover) e = ap lemma_of_cell e
  lemma_same number settled (Heavy inst) (event, e, at) = ap lemma_of_cell e

  pub closure_same : (number : ℕ) (settled : Settled) (state : NodeState) → StandsForState journal closures number settled state → option_and_then (slice_get closures) (closure_of_cell settled) ≡ closure_at state
  closure_same number settled Open e = ap (λ one. option_and_then (slice_get closures) (closure_of_cell one)) e
  closure_same number settled (Split inst first) (event, e, at) = ap (λ one. option_and_then (slice_get closures) (closure_of_cell one)) e
  closure_same number settled (Rejected inst) (event, e, at) = ap (λ one. option_and_then (slice_get closures) (closure_of_cell one)) e
  closure_same number settled (SettledBy lemma) e = ap (λ one. option_and_then (slice_get closures) (closure_of_cell one)) e
  closure_same number settled (Shut closure) (place, e, at) = ap (λ one. option_and_then (slice_get closures) (closure_of_cell one)) e ∙ at
  closure_same number settled Found e = ap (λ one. option_and_then (slice_get closures) (closure_of_cell one)) e
  closure_same number settled (Covered cover) e = ap (λ one. option_and_then (slice_get closures) (closure_of_cell one)) e
  closure_same number settled (Heavy inst) (event, e, at) = ap (λ one. option_and_then (slice_get closures) (closure_of_cell one)) e

  abbrev inst_at : Settled → Option Inst
  inst_at one = option_and_then (λ event. option_and_then instance_in (slice_get journal event)) (event_of_cell one)

  pub instance_same : (number : ℕ) (settled : Settled) (state : NodeState) → StandsForState journal closures number settled state → option_and_then (λ event. option_and_then instance_in (slice_get journal event)) (event_of_cell settled) ≡ instance_of state
  instance_same number settled Open e = ap inst_at e
  instance_same number settled (Split inst first) (event, e, at) = ap inst_at e ∙ ap (option_and_then instance_in) at
  instance_same number settled (Rejected inst) (event, e, at) = ap inst_at e ∙ ap (option_and_then instance_in) at
  instance_same number settled (SettledBy lemma) e = ap inst_at e
  instance_same number settled (Shut closure) (place, e, at) = ap inst_at e
  instance_same number settled Found e = ap inst_at e
  instance_same number settled (Covered cover) e = ap inst_at e
  instance_same number settled (Heavy inst) (event, e, at) = ap inst_at e ∙ ap (option_and_then instance_in) at

  kind_cases : (closed : Bool) (number : ℕ) (settled : Settled) (state : NodeState) → StandsForState journal closures number settled state → kind_of_cell closed settled ≡ kind_by closed state
  kind_cases true number settled state stands = refl
  kind_cases false number settled Open e = ap (kind_of_cell false) e
  kind_cases false number settled (Split inst first) (event, e, at) = ap (kind_of_cell false) e
  kind_cases false number settled (Rejected inst) (event, e, at) = ap (kind_of_cell false) e
  kind_cases false number settled (SettledBy lemma) e = ap (kind_of_cell false) e
  kind_cases false number settled (Shut closure) (place, e, at) = ap (kind_of_cell false) e
  kind_cases false number settled Found e = ap (kind_of_cell false) e
  kind_cases false number settled (Covered cover) e = ap (kind_of_cell false) e
  kind_cases false number settled (Heavy inst) (event, e, at) = ap (kind_of_cell false) e

  pub kind_same : (number : ℕ) (cell : Cell) (node : Node) → StandsFor journal closures kept number cell node → kind_of_cell cell.is_closed cell.settled ≡ kind_of node
  kind_same number cell node stands = ap (λ closed. kind_of_cell closed cell.settled) stands.closed ∙ kind_cases (is_some node.own) number cell.settled node.state stands.settled

-- two options, one after the other
then_then : {X Y Z : Type 0} (f : X → Option Y) (g : Y → Option Z) (one : Option X) → option_and_then g (option_and_then f one) ≡ option_and_then (λ x. option_and_then g (f x)) one
then_then f g None = refl
then_then f g (Some x) = refl

-- ---- a board's fields show what the nodes of its journal's board do

module _ (search : Search) (cells : List Cell) (closures : List Closure) (lemmas : List Pair) (lemma_nodes : List ℕ) (tally : Tally) (keeping : IsKeeping search cells closures lemmas lemma_nodes tally) (number : ℕ) where
  pub kind_kept : option_map (λ (cell : Cell). kind_of_cell cell.is_closed cell.settled) (slice_get cells number) ≡ option_map kind_of (slice_get (board_of search).nodes number)
  kind_kept = seen search.journal closures (board_of search).kept (λ cell. kind_of_cell cell.is_closed cell.settled) kind_of (kind_same search.journal closures (board_of search).kept) 0 cells (board_of search).nodes keeping.stand.nodes number

  pub first_child_kept : cell_shows first_child_of_cell cells number ≡ shown first_child_of (board_of search).nodes number
  first_child_kept = seen_then search.journal closures (board_of search).kept (λ cell. first_child_of_cell cell.settled) (λ node. first_child_of node.state) (λ n cell node stands. first_child_same search.journal closures (board_of search).kept n cell.settled node.state stands.settled) 0 cells (board_of search).nodes keeping.stand.nodes number

  pub lemma_by_kept : cell_shows lemma_of_cell cells number ≡ shown lemma_by (board_of search).nodes number
  lemma_by_kept = seen_then search.journal closures (board_of search).kept (λ cell. lemma_of_cell cell.settled) (λ node. lemma_by node.state) (λ n cell node stands. lemma_same search.journal closures (board_of search).kept n cell.settled node.state stands.settled) 0 cells (board_of search).nodes keeping.stand.nodes number

  pub closure_kept : option_and_then (slice_get closures) (cell_shows closure_of_cell cells number) ≡ shown closure_at (board_of search).nodes number
  closure_kept = then_then (λ (cell : Cell). closure_of_cell cell.settled) (slice_get closures) (slice_get cells number)
      ∙ seen_then search.journal closures (board_of search).kept (λ cell. option_and_then (slice_get closures) (closure_of_cell cell.settled)) (λ node. closure_at node.state) (λ n cell node stands. closure_same search.journal closures (board_of search).kept n cell.settled node.state stands.settled) 0 cells (board_of search).nodes keeping.stand.nodes number

  pub instance_kept : option_and_then (λ event. option_and_then instance_in (slice_get search.journal event)) (cell_shows event_of_cell cells number) ≡ shown instance_of (board_of search).nodes number
  instance_kept = then_then (λ (cell : Cell). event_of_cell cell.settled) (λ event. option_and_then instance_in (slice_get search.journal event)) (slice_get cells number)
      ∙ seen_then search.journal closures (board_of search).kept (λ cell. option_and_then (λ event. option_and_then instance_in (slice_get search.journal event)) (event_of_cell cell.settled)) (λ node. instance_of node.state) (λ n cell node stands. instance_same search.journal closures (board_of search).kept n cell.settled node.state stands.settled) 0 cells (board_of search).nodes keeping.stand.nodes number
