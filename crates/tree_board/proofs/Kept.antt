-- What the fields of a board keep, as its other readers show it.
use Rattle.std.proofs.Common.{◌≡◌, ◌+◌, ◌<◌, ◌^◌, ℕ, zero, suc, Bool, cond, not, ◌||◌, nat_eq, nat_le, nat_lt, List, [], ◌∷◌, map, length, get_or, is_some, slice_get, Option, Some, None, option_map, refl, sym, ap, ap₂, subst, ◌∙◌, arith}
use Rattle.std.specs.Prelude.{option_and_then}
use Rattle.std.specs.List.{list_any, position, position_or_len}
use Rattle.std.proofs.lemmas.Bool.{eqb-true}
use Rattle.std.proofs.lemmas.List.Quantifiers.{position-Some}
use Rattle.std.proofs.lemmas.Option.{slice_get-map, slice_get-get_or}
use Rattle.mg_word.specs.Words.{numbered}
use Rattle.mg_meaning.specs.Folding.{Pair}
use Rattle.case_split.specs.declared.child.Closure.{Closure}
use Rattle.tree_board.specs.declared.cell.Cell.{Cell}
use Rattle.tree_board.specs.declared.cell.Settled.{Settled}
use Rattle.tree_board.specs.declared.event.Event.{Event}
use Rattle.tree_board.specs.declared.mode.Mode.{Mode}
use Rattle.tree_board.specs.declared.mode.Mode.TheVariants.{List as ListAll, Refute}
use Rattle.tree_board.specs.NodeStates.{NodeState, Open, Split, Rejected, Settled as SettledBy, Shut, Found, Covered, Heavy, is_open, is_found}
use Rattle.tree_board.specs.Nodes.{Node}
use Rattle.tree_board.specs.Boards.{Board, Kept, pair_at, own_of, is_closed, count}
use Rattle.tree_board.specs.Lawful.{IsReplay}
use Rattle.tree_board.specs.Settings.{Setting}
use Rattle.tree_board.specs.Searches.{Search, setting_of, board_of}
use Rattle.tree_board.specs.Cells.{StandsForState, StandsFor, StandForNodes}
use Rattle.tree_board.specs.CellStanding.{is_open_yet, is_found_set, is_root_closed}
use Rattle.tree_board.specs.Facts.{IsBoard}
use Rattle.tree_board.specs.declared.tally.Tally.{Tally}
use Rattle.tree_board.specs.Keeping.{IsKeeping}
use Rattle.tree_board.specs.Readers.{own_number, lemma_node_at}
use Rattle.tree_board.specs.Standing.{model_of, some_open, standing_by, state_of}
use Rattle.tree_board.specs.Tallies.{model_in}
use Rattle.tree_board.proofs.Budgets.{few_nodes}
use Rattle.tree_board.proofs.Places.{some_none}
use Rattle.tree_board.proofs.Replays.{replay_board}
use Rattle.tree_board.proofs.Tallying.{some_open_counted}

-- ---- lists of lemmas, and their parts

module _ {X Y : Type 0} (f : X → Y) where
  pub numbered-map : (xs : List X) (number : ℕ) → numbered (map f xs) number ≡ option_map f (numbered xs number)
  numbered-map xs zero = refl
  numbered-map xs (suc index) = slice_get-map f xs index

module _ (journal : List Event) (closures : List Closure) (kept : List Kept) where
  pub open_same : (number : ℕ) (settled : Settled) (state : NodeState) → StandsForState journal closures number settled state → is_open_yet settled ≡ is_open state
  open_same number settled Open e = ap is_open_yet e
  open_same number settled (Split inst first) (event, e, at) = ap is_open_yet e
  open_same number settled (Rejected inst) (event, e, at) = ap is_open_yet e
  open_same number settled (SettledBy lemma) e = ap is_open_yet e
  open_same number settled (Shut closure) (place, e, at) = ap is_open_yet e
  open_same number settled Found e = ap is_open_yet e
  open_same number settled (Covered cover) e = ap is_open_yet e
  open_same number settled (Heavy inst) (event, e, at) = ap is_open_yet e

  pub found_same : (number : ℕ) (settled : Settled) (state : NodeState) → StandsForState journal closures number settled state → is_found_set settled ≡ is_found state
  found_same number settled Open e = ap is_found_set e
  found_same number settled (Split inst first) (event, e, at) = ap is_found_set e
  found_same number settled (Rejected inst) (event, e, at) = ap is_found_set e
  found_same number settled (SettledBy lemma) e = ap is_found_set e
  found_same number settled (Shut closure) (place, e, at) = ap is_found_set e
  found_same number settled Found e = ap is_found_set e
  found_same number settled (Covered cover) e = ap is_found_set e
  found_same number settled (Heavy inst) (event, e, at) = ap is_found_set e

  pub length_seen : (first : ℕ) (cells : List Cell) (nodes : List Node) → StandForNodes journal closures kept first cells nodes → length cells ≡ length nodes
  length_seen first [] [] stand = refl
  length_seen first [] (node ∷ nodes) stand = absurd stand
  length_seen first (cell ∷ cells) [] stand = absurd stand
  length_seen first (cell ∷ cells) (node ∷ nodes) (one, stand) = ap suc (length_seen (suc first) cells nodes stand)

  pub any_seen : (f : Settled → Bool) (g : NodeState → Bool) → ((number : ℕ) (settled : Settled) (state : NodeState) → StandsForState journal closures number settled state → f settled ≡ g state)
      → (first : ℕ) (cells : List Cell) (nodes : List Node) → StandForNodes journal closures kept first cells nodes → list_any (λ (cell : Cell). f cell.settled) cells ≡ list_any (λ (node : Node). g node.state) nodes
  any_seen f g same first [] [] stand = refl
  any_seen f g same first [] (node ∷ nodes) stand = absurd stand
  any_seen f g same first (cell ∷ cells) [] stand = absurd stand
  any_seen f g same first (cell ∷ cells) (node ∷ nodes) (one, stand) = ap₂ (λ here there. here || there) (same first cell.settled node.state one.settled) (any_seen f g same (suc first) cells nodes stand)

  root_seen : (first : ℕ) (cells : List Cell) (nodes : List Node) → StandForNodes journal closures kept first cells nodes → is_root_closed cells ≡ is_some (own_of (slice_get nodes 0))
  root_seen first [] [] stand = refl
  root_seen first [] (node ∷ nodes) stand = absurd stand
  root_seen first (cell ∷ cells) [] stand = absurd stand
  root_seen first (cell ∷ cells) (node ∷ nodes) (one, stand) = one.closed

  -- the cell of each node
  pub cell_at : (first : ℕ) (cells : List Cell) (nodes : List Node) → StandForNodes journal closures kept first cells nodes → (index : ℕ) (node : Node) → slice_get nodes index ≡ Some node
      → (cell : Cell) × (slice_get cells index ≡ Some cell) × StandsFor journal closures kept (first + index) cell node
  cell_at first cells [] stand index node at = absurd (let bad : ⊥ = cc in bad)
  cell_at first [] (one ∷ nodes) stand index node at = absurd stand
  cell_at first (cell ∷ cells) (one ∷ nodes) (here, stand) zero node at =
      let same : one ≡ node = cc in
      let number : first ≡ first + 0 = omega arith in
      (cell, refl, subst (λ n. StandsFor journal closures kept n cell node) number (subst (StandsFor journal closures kept first cell) same here))
  cell_at first (cell ∷ cells) (one ∷ nodes) (here, stand) (suc index) node at =
      let (found, is, stands) = cell_at (suc first) cells nodes stand index node at in
      let number : suc first + index ≡ first + suc index = omega arith in
      (found, is, subst (λ n. StandsFor journal closures kept n found node) number stands)

  -- past the nodes no cell
  pub no_cell : (first : ℕ) (cells : List Cell) (nodes : List Node) → StandForNodes journal closures kept first cells nodes → (index : ℕ) → slice_get nodes index ≡ None → slice_get cells index ≡ None
  no_cell first [] nodes stand index past = refl
  no_cell first (cell ∷ cells) [] stand index past = absurd stand
  no_cell first (cell ∷ cells) (node ∷ nodes) (here, stand) zero past = absurd (let bad : ⊥ = cc in bad)
  no_cell first (cell ∷ cells) (node ∷ nodes) (here, stand) (suc index) past = no_cell (suc first) cells nodes stand index past

-- of a number that no node has, no lemma is kept
pub own_past : (setting : Setting) (board : Board) → IsBoard setting board → (number : ℕ) → slice_get board.nodes number ≡ None → own_number board.kept number ≡ None
own_past setting board facts number past = by (position (λ (one : Kept). nat_eq one.node number) board.kept) refl
  where
    by : (found : Option ℕ) → position (λ (one : Kept). nat_eq one.node number) board.kept ≡ found → own_number board.kept number ≡ None
    by None none = ap (option_map (λ index. suc index)) none
    by (Some index) some =
        let blank : Kept = record { node = 0; pair = record { inside = []; outside = [] } } in
        let (small, passes, before) = position-Some (λ (one : Kept). nat_eq one.node number) board.kept index blank some in
        let one : Kept = get_or board.kept index blank in
        let is_kept = facts.kept (suc index) one (slice_get-get_or board.kept index blank small) in
        let same : one.node ≡ number = eqb-true one.node number passes in
        absurd (some_none is_kept.node (slice_get board.nodes number) (ap (slice_get board.nodes) (sym same) ∙ is_kept.is) past)

module _ (search : Search) (cells : List Cell) (closures : List Closure) (lemmas : List Pair) (lemma_nodes : List ℕ) (tally : Tally) (keeping : IsKeeping search cells closures lemmas lemma_nodes tally) where
  pub replay_kept : IsReplay (setting_of search) (board_of search)
  replay_kept = record { events = search.journal; lawful = keeping.lawful; is = refl }

  pub board_kept : IsBoard (setting_of search) (board_of search)
  board_kept = replay_board (setting_of search) (board_of search) keeping.problem replay_kept

  pub nodes_kept : length cells ≡ length (board_of search).nodes
  nodes_kept = length_seen search.journal closures (board_of search).kept 0 cells (board_of search).nodes keeping.stand.nodes

  pub few_cells : length cells < 2 ^ 32
  few_cells =
      let few = few_nodes (setting_of search) (board_of search) keeping.problem replay_kept keeping.budget in
      let same = nodes_kept in
      omega (arith, few, same)

  pub lemma_kept : (number : ℕ) → numbered lemmas number ≡ pair_at (board_of search).kept number
  lemma_kept number = ap (λ pairs. numbered pairs number) keeping.stand.pairs ∙ numbered-map (λ (one : Kept). one.pair) (board_of search).kept number

  pub lemma_node_kept : (number : ℕ) → numbered lemma_nodes number ≡ lemma_node_at (board_of search).kept number
  lemma_node_kept number = ap (λ owners. numbered owners number) keeping.stand.owners ∙ numbered-map (λ (one : Kept). one.node) (board_of search).kept number

  pub own_kept : (number : ℕ) → option_and_then (λ (cell : Cell). cell.own_lemma) (slice_get cells number) ≡ own_number (board_of search).kept number
  own_kept number = by (slice_get (board_of search).nodes number) refl
    where
      by : (found : Option Node) → slice_get (board_of search).nodes number ≡ found → option_and_then (λ (cell : Cell). cell.own_lemma) (slice_get cells number) ≡ own_number (board_of search).kept number
      by None past =
          ap (option_and_then (λ (cell : Cell). cell.own_lemma)) (no_cell search.journal closures (board_of search).kept 0 cells (board_of search).nodes keeping.stand.nodes number past)
          ∙ sym (own_past (setting_of search) (board_of search) board_kept number past)
      by (Some node) at =
          let (cell, is, stands) = cell_at search.journal closures (board_of search).kept 0 cells (board_of search).nodes keeping.stand.nodes number node at in
          let same : 0 + number ≡ number = omega arith in
          ap (option_and_then (λ (cell : Cell). cell.own_lemma)) is ∙ (stands.own ∙ ap (own_number (board_of search).kept) same)

  pub state_kept : (spent : Bool) → spent ≡ nat_le search.limits.budget tally.extensions
      → standing_by (is_root_closed cells) (model_in search.mode tally.least_found) (nat_lt 0 tally.opens) spent tally.has_heavy ≡ state_of (setting_of search) (board_of search)
  state_kept spent is =
      ap (λ one. standing_by one (model_in search.mode tally.least_found) (nat_lt 0 tally.opens) spent tally.has_heavy) (root_seen search.journal closures (board_of search).kept 0 cells (board_of search).nodes keeping.stand.nodes)
      ∙ (ap (λ one. standing_by (is_closed (board_of search) 0) one (nat_lt 0 tally.opens) spent tally.has_heavy) (model_same search.mode)
      ∙ (ap (λ one. standing_by (is_closed (board_of search) 0) (model_of search.mode (board_of search)) one spent tally.has_heavy) (ap (nat_lt 0) keeping.tallied.opens ∙ some_open_counted (board_of search).nodes)
      ∙ (ap (λ one. standing_by (is_closed (board_of search) 0) (model_of search.mode (board_of search)) (some_open (board_of search)) one tally.has_heavy) (is ∙ ap (nat_le search.limits.budget) keeping.count)
      ∙ ap (λ one. standing_by (is_closed (board_of search) 0) (model_of search.mode (board_of search)) (some_open (board_of search)) (nat_le search.limits.budget (count (board_of search))) one) keeping.tallied.heavy)))
    where
      model_same : (mode : Mode) → model_in mode tally.least_found ≡ model_of mode (board_of search)
      model_same Refute = keeping.tallied.found
      model_same ListAll = refl
