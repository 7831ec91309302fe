-- With an event's move the cells stand for the nodes of the moved board.
use Rattle.std.proofs.Common.{◌≡◌, ℕ, zero, suc, ◌+◌, ◌≤◌, List, [], ◌∷◌, ◌++◌, length, map, is_some, slice_get, slice_set, Option, Some, None, refl, sym, ap, subst, ◌∙◌, append_assoc, arith}
use Rattle.std.proofs.lemmas.List.{length-append}
use Rattle.std.proofs.lemmas.Option.{slice_get_past}
use Rattle.mg_word.specs.Words.{numbered}
use Rattle.mg_word.specs.declared.lit.Lit.{Lit}
use Rattle.mg_meaning.specs.Folding.{Pair}
use Rattle.case_split.specs.declared.child.Child.{Child}
use Rattle.case_split.specs.declared.child.Closure.{Closure}
use Rattle.tree_board.specs.declared.cell.Cell.{Cell}
use Rattle.tree_board.specs.declared.cell.Settled.{Settled}
use Rattle.tree_board.specs.declared.event.Event.{Event}
use Rattle.tree_board.specs.declared.event.Event.TheVariants.{ByLemma, Covered as CoveredBy, Extend, Heavy as TooHeavy, Reject, Saturated}
use Rattle.tree_board.specs.Boards.{Board, Kept}
use Rattle.tree_board.specs.Cells.{StandsForState, StandsFor, StandForNodes, parent_of}
use Rattle.tree_board.specs.CellMoves.{settled_as, lemma_made, settled_cell, born_cell, place_after, cells_of_cases, with_closure, closures_of, cases_made}
use Rattle.tree_board.specs.Children.{nodes_of_cases, node_of_case}
use Rattle.tree_board.specs.Effects.{settled, born, moved}
use Rattle.tree_board.specs.Events.{node_of}
use Rattle.tree_board.specs.Facts.{IsBoard}
use Rattle.tree_board.specs.NodeStates.{NodeState, Open, Split, Rejected, Settled as SettledBy, Shut, Found, Covered, Heavy}
use Rattle.tree_board.specs.Nodes.{Node}
use Rattle.tree_board.specs.Readers.{own_number}
use Rattle.tree_board.specs.Settings.{Setting}
use Rattle.tree_board.proofs.Kept.{cell_at, numbered-map, own_past}
use Rattle.tree_board.proofs.Places.{get_left, get_right, length-slice_set, same_some}

-- ---- more events and reasons leave what stands standing

module _ (journal events : List Event) (closures more : List Closure) (kept : List Kept) where
  later_state : (number : ℕ) (one : Settled) (state : NodeState) → StandsForState journal closures number one state → StandsForState (journal ++ events) (closures ++ more) number one state
  later_state number one Open e = e
  later_state number one (Split inst first) (event, e, at) = (event, e, get_left journal events event (Extend number inst) at)
  later_state number one (Rejected inst) (event, e, at) = (event, e, get_left journal events event (Reject number inst) at)
  later_state number one (SettledBy lemma) e = e
  later_state number one (Shut closure) (place, e, at) = (place, e, get_left closures more place closure at)
  later_state number one Found e = e
  later_state number one (Covered cover) e = e
  later_state number one (Heavy inst) (event, e, at) = (event, e, get_left journal events event (TooHeavy number inst) at)

  pub later_stand : (first : ℕ) (cells : List Cell) (nodes : List Node) → StandForNodes journal closures kept first cells nodes → StandForNodes (journal ++ events) (closures ++ more) kept first cells nodes
  later_stand first [] [] stand = stand
  later_stand first [] (node ∷ nodes) stand = absurd stand
  later_stand first (cell ∷ cells) [] stand = absurd stand
  later_stand first (cell ∷ cells) (node ∷ nodes) (one, stand) =
      (record { parent = one.parent; settled = later_state first cell.settled node.state one.settled; closed = one.closed; lemma = one.lemma; own = one.own }, later_stand (suc first) cells nodes stand)

module _ (journal : List Event) (closures : List Closure) (kept : List Kept) where
  -- a cell and its node are set
  pub set_stand : (first : ℕ) (cells : List Cell) (nodes : List Node) → StandForNodes journal closures kept first cells nodes → (index : ℕ) (cell : Cell) (node : Node) → StandsFor journal closures kept (first + index) cell node
      → StandForNodes journal closures kept first (slice_set cells index cell) (slice_set nodes index node)
  set_stand first [] [] stand index cell node stands = stand
  set_stand first [] (old ∷ nodes) stand index cell node stands = absurd stand
  set_stand first (before ∷ cells) [] stand index cell node stands = absurd stand
  set_stand first (before ∷ cells) (old ∷ nodes) (one, stand) zero cell node stands =
      let number : first + 0 ≡ first = omega arith in
      (subst (λ n. StandsFor journal closures kept n cell node) number stands, stand)
  set_stand first (before ∷ cells) (old ∷ nodes) (one, stand) (suc index) cell node stands =
      let number : first + suc index ≡ suc first + index = omega arith in
      (one, set_stand (suc first) cells nodes stand index cell node (subst (λ n. StandsFor journal closures kept n cell node) number stands))

  -- more cells stand for more nodes
  pub joined_stand : (first : ℕ) (cells : List Cell) (nodes : List Node) → StandForNodes journal closures kept first cells nodes → (more_cells : List Cell) (more_nodes : List Node) → StandForNodes journal closures kept (first + length nodes) more_cells more_nodes
      → StandForNodes journal closures kept first (cells ++ more_cells) (nodes ++ more_nodes)
  joined_stand first [] [] stand more_cells more_nodes more =
      let number : first + 0 ≡ first = omega arith in
      subst (λ n. StandForNodes journal closures kept n more_cells more_nodes) number more
  joined_stand first [] (node ∷ nodes) stand more_cells more_nodes more = absurd stand
  joined_stand first (cell ∷ cells) [] stand more_cells more_nodes more = absurd stand
  joined_stand first (cell ∷ cells) (node ∷ nodes) (one, stand) more_cells more_nodes more =
      let number : first + suc (length nodes) ≡ suc first + length nodes = omega arith in
      (one, joined_stand (suc first) cells nodes stand more_cells more_nodes (subst (λ n. StandForNodes journal closures kept n more_cells more_nodes) number more))

-- the cells of the cases of a split stand for their nodes
pub born_stand : (journal : List Event) (kept : List Kept) (parent : ℕ) (above : List ℕ) (lits : List Lit) (cases : List Child) (before : List Closure) (first place : ℕ) → place ≡ length before → ((number : ℕ) → first ≤ number → own_number kept number ≡ None)
    → StandForNodes journal (before ++ closures_of cases) kept first (cells_of_cases parent place cases) (nodes_of_cases first (parent ∷ above) lits cases)
born_stand journal kept parent above lits [] before first place is fresh = tt
born_stand journal kept parent above lits (one ∷ more) before first place is fresh =
    by one.at_once (λ earlier next size. born_stand journal kept parent above lits more earlier (suc first) next size (λ number from. fresh number (omega (arith, from))))
  where
    by : (at_once : Option Closure)
        → ((earlier : List Closure) (next : ℕ) → next ≡ length earlier → StandForNodes journal (earlier ++ closures_of more) kept (suc first) (cells_of_cases parent next more) (nodes_of_cases (suc first) (parent ∷ above) lits more))
        → StandForNodes journal (before ++ with_closure at_once (closures_of more)) kept first
        (born_cell parent place at_once ∷ cells_of_cases parent (place_after place at_once) more)
        (node_of_case first (parent ∷ above) lits (record { lit = one.lit; barred = one.barred; at_once = at_once }) ∷ nodes_of_cases (suc first) (parent ∷ above) lits more)
    by None rest = (record { parent = refl; settled = refl; closed = refl; lemma = refl; own = sym (fresh first (omega arith)) }, rest before place is)
    by (Some closure) rest =
        let here : slice_get (before ++ closure ∷ closures_of more) place ≡ Some closure = get_right before (closure ∷ closures_of more) place 0 (omega (arith, is)) in
        let size : suc place ≡ length (before ++ closure ∷ []) = (let e = length-append before (closure ∷ []) in omega (arith, is, e)) in (
          record { parent = refl; settled = (place, refl, here); closed = refl; lemma = refl; own = sym (fresh first (omega arith)) },
          subst (λ all. StandForNodes journal all kept (suc first) (cells_of_cases parent (suc place) more) (nodes_of_cases (suc first) (parent ∷ above) lits more)) (append_assoc before (closure ∷ []) (closures_of more)) (rest (before ++ closure ∷ []) (suc place) size),
        )

-- ---- the settled cell

module _ (journal : List Event) (closures : List Closure) (board : Board) where
  last_event : (event : Event) → slice_get (journal ++ event ∷ []) (length journal) ≡ Some event
  last_event event = get_right journal (event ∷ []) (length journal) 0 (omega arith)

  settled_state : (node : Node) (event : Event) → StandsForState (journal ++ event ∷ []) closures (node_of event) (settled_as (length journal) (length board.nodes) event) (settled board node event).state
  settled_state node (Extend number inst) = (length journal, refl, last_event (Extend number inst))
  settled_state node (Reject number inst) = (length journal, refl, last_event (Reject number inst))
  settled_state node (ByLemma number lemma) = refl
  settled_state node (Saturated number) = refl
  settled_state node (CoveredBy number cover) = refl
  settled_state node (TooHeavy number inst) = (length journal, refl, last_event (TooHeavy number inst))

  settled_path : (node : Node) (event : Event) → (settled board node event).path ≡ node.path
  settled_path node (Extend number inst) = refl
  settled_path node (Reject number inst) = refl
  settled_path node (ByLemma number lemma) = refl
  settled_path node (Saturated number) = refl
  settled_path node (CoveredBy number cover) = refl
  settled_path node (TooHeavy number inst) = refl

  -- of a node without a lemma, the lemma is that of the event
  lemma_same : (lemmas : List Pair) → lemmas ≡ map (λ (one : Kept). one.pair) board.kept → (node : Node) (event : Event) → node.own ≡ None → lemma_made lemmas event ≡ (settled board node event).own
  lemma_same lemmas pairs node (Extend number inst) none = sym none
  lemma_same lemmas pairs node (Reject number inst) none = refl
  lemma_same lemmas pairs node (ByLemma number lemma) none = ap (λ all. numbered all lemma) pairs ∙ numbered-map (λ (one : Kept). one.pair) board.kept lemma
  lemma_same lemmas pairs node (Saturated number) none = sym none
  lemma_same lemmas pairs node (CoveredBy number cover) none = sym none
  lemma_same lemmas pairs node (TooHeavy number inst) none = sym none

  -- the cell that stands for a node, settled, stands for the settled node
  pub settled_stands : (lemmas : List Pair) → lemmas ≡ map (λ (one : Kept). one.pair) board.kept → (cell : Cell) (node : Node) (event : Event) → cell.parent ≡ parent_of node.path → cell.own_lemma ≡ own_number board.kept (node_of event) → node.own ≡ None
      → StandsFor (journal ++ event ∷ []) closures board.kept (node_of event) (settled_cell (settled_as (length journal) (length board.nodes) event) (lemma_made lemmas event) cell) (settled board node event)
  settled_stands lemmas pairs cell node event parent own none = record {
    parent = parent ∙ ap parent_of (sym (settled_path node event));
    settled = settled_state node event;
    closed = ap is_some (lemma_same lemmas pairs node event none);
    lemma = lemma_same lemmas pairs node event none;
    own = own;
  }

-- ---- the whole move

pub born_are : (board : Board) (node : Node) (event : Event) → nodes_of_cases (length board.nodes) node.path node.lits (cases_made node.lits node.barred event) ≡ born board node event
born_are board node (Extend number inst) = refl
born_are board node (Reject number inst) = refl
born_are board node (ByLemma number lemma) = refl
born_are board node (Saturated number) = refl
born_are board node (CoveredBy number cover) = refl
born_are board node (TooHeavy number inst) = refl

-- with its cell settled and the cells of its children added, the cells stand for the nodes of the move
pub moved_stand : (setting : Setting) (board : Board) → IsBoard setting board → (journal : List Event) (closures : List Closure) (lemmas : List Pair) → lemmas ≡ map (λ (one : Kept). one.pair) board.kept
    → (cells : List Cell) → StandForNodes journal closures board.kept 0 cells board.nodes → (node : Node) (event : Event) → slice_get board.nodes (node_of event) ≡ Some node → node.own ≡ None → (cell : Cell) → slice_get cells (node_of event) ≡ Some cell
    → StandForNodes (journal ++ event ∷ []) (closures ++ closures_of (cases_made node.lits node.barred event)) board.kept 0
    (slice_set cells (node_of event) (settled_cell (settled_as (length journal) (length board.nodes) event) (lemma_made lemmas event) cell) ++ cells_of_cases (node_of event) (length closures) (cases_made node.lits node.barred event))
    (moved board node event).nodes
moved_stand setting board facts journal closures lemmas pairs cells stand node event at unclosed cell is =
    let own = facts.each (node_of event) node at in
    let cases : List Child = cases_made node.lits node.barred event in
    let after : Cell = settled_cell (settled_as (length journal) (length board.nodes) event) (lemma_made lemmas event) cell in
    let (found, found_is, stands) = cell_at journal closures board.kept 0 cells board.nodes stand (node_of event) node at in
    let same : found ≡ cell = same_some found cell (sym found_is ∙ is) in
    let number : 0 + node_of event ≡ node_of event = omega arith in
    let here = settled_stands journal (closures ++ closures_of cases) board lemmas pairs cell node event
    (ap (λ (one : Cell). one.parent) (sym same) ∙ stands.parent) (ap (λ (one : Cell). one.own_lemma) (sym same) ∙ (stands.own ∙ ap (own_number board.kept) number)) unclosed in
    let later = later_stand journal (event ∷ []) closures (closures_of cases) board.kept 0 cells board.nodes stand in
    let changed = set_stand (journal ++ event ∷ []) (closures ++ closures_of cases) board.kept 0 cells board.nodes later (node_of event) after (settled board node event)
    (subst (λ n. StandsFor (journal ++ event ∷ []) (closures ++ closures_of cases) board.kept n after (settled board node event)) (sym number) here) in
    let children = born_stand (journal ++ event ∷ []) board.kept (node_of event) own.above node.lits cases closures (length board.nodes) (length closures) refl
    (λ k from. own_past setting board facts k (slice_get_past board.nodes k from)) in
    let size : length board.nodes ≡ 0 + length (slice_set board.nodes (node_of event) (settled board node event)) = (let e = length-slice_set board.nodes (node_of event) (settled board node event) in omega (arith, e)) in
    let placed = subst (λ path. StandForNodes (journal ++ event ∷ []) (closures ++ closures_of cases) board.kept (length board.nodes) (cells_of_cases (node_of event) (length closures) cases) (nodes_of_cases (length board.nodes) path node.lits cases)) (sym own.path) children in
    let made = subst (λ nodes. StandForNodes (journal ++ event ∷ []) (closures ++ closures_of cases) board.kept (length board.nodes) (cells_of_cases (node_of event) (length closures) cases) nodes) (born_are board node event) placed in
    joined_stand (journal ++ event ∷ []) (closures ++ closures_of cases) board.kept 0 (slice_set cells (node_of event) after) (slice_set board.nodes (node_of event) (settled board node event)) changed
    (cells_of_cases (node_of event) (length closures) cases) (born board node event)
    (subst (λ n. StandForNodes (journal ++ event ∷ []) (closures ++ closures_of cases) board.kept n (cells_of_cases (node_of event) (length closures) cases) (born board node event)) size made)
