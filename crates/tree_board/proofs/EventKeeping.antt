-- What the fields of a board keep when an event comes.
use Rattle.std.proofs.Common.{◌≡◌, ℕ, suc, ◌+◌, ◌-◌, ◌<◌, ◌≤◌, ◌^◌, List, [], ◌∷◌, ◌++◌, length, map, slice_get, slice_set, Option, Some, None, refl, sym, ap, ap₂, subst, ◌∙◌, arith}
use Rattle.std.proofs.lemmas.List.{length-append}
use Rattle.mg_word.specs.declared.lit.Lit.{Lit}
use Rattle.mg_meaning.specs.Folding.{Pair}
use Rattle.case_split.specs.declared.child.Child.{Child}
use Rattle.case_split.specs.declared.child.Closure.{Closure}
use Rattle.tree_board.specs.declared.cell.Cell.{Cell}
use Rattle.tree_board.specs.declared.cell.Settled.{Settled}
use Rattle.tree_board.specs.declared.event.Event.{Event}
use Rattle.tree_board.specs.Boards.{Board, Kept, count, opening}
use Rattle.tree_board.specs.CellClimbs.{StandSomewhere, Climbs}
use Rattle.tree_board.specs.CellMoves.{settled_as, lemma_made, settled_cell, place_after, cells_of_cases, closures_of, cases_made, AreCases}
use Rattle.tree_board.specs.Cells.{StandForNodes, StandForBoard}
use Rattle.tree_board.specs.Children.{nodes_of_cases}
use Rattle.tree_board.specs.Closings.{due, closed_by, closed_node, closed_at, climb}
use Rattle.tree_board.specs.Effects.{settled, born, moved, effect}
use Rattle.tree_board.specs.Events.{node_of, extends_in}
use Rattle.tree_board.specs.Facts.{StateHolds, IsBoard}
use Rattle.tree_board.specs.declared.tally.Tally.{Tally}
use Rattle.tree_board.specs.Keeping.{IsKeeping}
use Rattle.tree_board.specs.Lawful.{IsLawful, IsReplay}
use Rattle.tree_board.specs.Nodes.{Node}
use Rattle.tree_board.specs.Searches.{Search, setting_of, board_of}
use Rattle.tree_board.specs.Settings.{Setting}
use Rattle.tree_board.specs.Tallies.{IsTally, opens_in, tally_after}
use Rattle.tree_board.proofs.Bounds.{boards_bounded}
use Rattle.tree_board.proofs.Budgets.{within_budget, few_nodes}
use Rattle.tree_board.proofs.CaseCells.{closures-cases}
use Rattle.tree_board.proofs.CellMoves.{born_are, moved_stand}
use Rattle.tree_board.proofs.Counting.{extends-append}
use Rattle.tree_board.proofs.Journals.{replay_more, lawful_more, replay_goes_on, effect_journal, events_kept}
use Rattle.tree_board.proofs.Kept.{board_kept, cell_at, length_seen, nodes_kept, replay_kept}
use Rattle.tree_board.proofs.Moving.{moved_board}
use Rattle.tree_board.proofs.Places.{length-slice_set, there_now}
use Rattle.tree_board.proofs.Replays.{climb_keeps, effect_is}
use Rattle.tree_board.proofs.Settling.{settled_keeps}
use Rattle.tree_board.proofs.Tallying.{effect_tally, opens_cases, opens_few, opens_some}

-- the cells with that one settled
abbrev pub AreSettled : List Cell → ℕ → Settled → Option Pair → List Cell → Type 0
AreSettled old number settled lemma new = (cell : Cell) → slice_get old number ≡ Some cell → new ≡ slice_set old number (settled_cell settled lemma cell)

-- ---- sizes

pub cells-cases : (parent place : ℕ) (cases : List Child) → length (cells_of_cases parent place cases) ≡ length cases
cells-cases parent place [] = refl
cells-cases parent place (one ∷ more) = ap suc (cells-cases parent (place_after place one.at_once) more)

nodes-cases : (number : ℕ) (path : List ℕ) (lits : List Lit) (cases : List Child) → length (nodes_of_cases number path lits cases) ≡ length cases
nodes-cases number path lits [] = refl
nodes-cases number path lits (one ∷ more) = ap suc (nodes-cases (suc number) path lits more)

closed_at_size : (setting : Setting) (number size : ℕ) (board : Board) → length board.nodes ≡ size → length (closed_at setting board number).nodes ≡ size
unfolding closed_at
closed_at_size setting number size board same = by (slice_get board.nodes number)
  where
    close : (node : Node) (pair : Option Pair) → length (closed_by setting board number node pair).nodes ≡ size
    close node None = same
    close node (Some pair) = length-slice_set board.nodes number (record node { own = Some pair }) ∙ same

    by : (node : Option Node) → length (closed_node setting board number node).nodes ≡ size
    by None = same
    by (Some node) = close node (due board.nodes node)

-- ---- an event that may come next

module _ (search : Search) (cells : List Cell) (closures : List Closure) (lemmas : List Pair) (lemma_nodes : List ℕ) (tally : Tally) (keeping : IsKeeping search cells closures lemmas lemma_nodes tally)
    (event : Event) (lawful : IsLawful (setting_of search) (board_of search) event) where
  abbrev setting : Setting
  setting = setting_of search

  abbrev board : Board
  board = board_of search

  abbrev node : Node
  node = lawful.node

  abbrev after : Board
  after = moved board node event

  facts : IsBoard setting board
  facts = board_kept search cells closures lemmas lemma_nodes tally keeping

  next_replay : IsReplay setting (effect setting board event)
  next_replay = replay_goes_on setting board event (replay_kept search cells closures lemmas lemma_nodes tally keeping) lawful

  unclosed : node.own ≡ None
  unclosed = subst (StateHolds setting board (node_of event) node) lawful.opened (facts.each (node_of event) node lawful.is).state

  after_facts : IsBoard setting after
  after_facts = moved_board setting board keeping.problem facts node event lawful.is lawful.opened lawful.due

  after_size : (cases : List Child) → AreCases board event cases → length after.nodes ≡ length cells + length cases
  after_size cases are =
      let sizes = length-append (slice_set board.nodes (node_of event) (settled board node event)) (born board node event) in
      let old = length-slice_set board.nodes (node_of event) (settled board node event) in
      let new : length (born board node event) ≡ length cases = ap length (sym (born_are board node event)) ∙ (nodes-cases (length board.nodes) node.path node.lits (cases_made node.lits node.barred event) ∙ ap length (sym (are node lawful.is))) in
      let seen = nodes_kept search cells closures lemmas lemma_nodes tally keeping in
      omega (arith, sizes, old, new, seen)

  effect_size : (cases : List Child) → AreCases board event cases → length (effect setting board event).nodes ≡ length cells + length cases
  effect_size cases are =
      ap (λ (one : Board). length one.nodes) (effect_is setting board event node lawful.is)
      ∙ (climb_keeps setting (λ one. length one.nodes ≡ length after.nodes) (λ number one same. closed_at_size setting number (length after.nodes) one same) node.path after refl ∙ after_size cases are)

  -- the numbers fit
  pub few_cases : (cases : List Child) → AreCases board event cases → length closures + length cases < 2 ^ 32
  few_cases cases are =
      let most = few_nodes setting (effect setting board event) keeping.problem next_replay keeping.budget in
      let size = effect_size cases are in
      let fewer = keeping.few in
      omega (arith, most, size, fewer)

  pub few_events : length search.journal < 2 ^ 32
  few_events =
      let bounded = boards_bounded setting board keeping.problem (replay_kept search cells closures lemmas lemma_nodes tally keeping) in
      let own : board.journal ≡ search.journal = events_kept setting search.journal opening keeping.lawful in
      let same = ap length own in
      let most = few_nodes setting board keeping.problem (replay_kept search cells closures lemmas lemma_nodes tally keeping) keeping.budget in
      omega (arith, bounded.events, same, most)

  counted : count (effect setting board event) ≡ tally.extensions + extends_in (event ∷ [])
  counted = ap extends_in (effect_journal setting board event lawful) ∙ (extends-append board.journal (event ∷ []) ∙ ap (λ n. n + extends_in (event ∷ [])) (sym keeping.count))

  pub few_extends : tally.extensions + extends_in (event ∷ []) < 2 ^ 32
  few_extends =
      let spent = within_budget setting (effect setting board event) next_replay in
      let same = counted in
      let most = keeping.budget in
      omega (arith, spent, same, most)

  -- the open ones of the children are those that have no reason to be closed at once
  children_are : (cases : List Child) → AreCases board event cases → (children : ℕ) → children ≡ length cases - length (closures_of cases) → children ≡ opens_in (born board node event)
  children_are cases are children is =
      let made : cases ≡ cases_made node.lits node.barred event = are node lawful.is in
      let sum = opens_cases (length board.nodes) node.path node.lits (cases_made node.lits node.barred event) in
      let opens = ap opens_in (born_are board node event) in
      let shut = ap (λ list. length (closures_of list)) made in
      let size = ap length made in
      omega (arith, sum, opens, shut, size, is)

  pub some_opens : 0 < tally.opens
  some_opens = let some = opens_some board.nodes (node_of event) node lawful.is lawful.opened in let own = keeping.tallied.opens in omega (arith, some, own)

  pub few_opens : (cases : List Child) → AreCases board event cases → (children : ℕ) → children ≤ length cases → tally.opens + children ≤ 2 ^ 32
  few_opens cases are children fewer =
      let most = few_nodes setting (effect setting board event) keeping.problem next_replay keeping.budget in
      let size = effect_size cases are in
      let few = opens_few board.nodes in
      let own = keeping.tallied.opens in
      let seen = nodes_kept search cells closures lemmas lemma_nodes tally keeping in
      omega (arith, most, size, few, own, seen, fewer)

  -- ---- the move

  module _ (cases : List Child) (are : AreCases board event cases) (cell_settled : Settled) (settled_is : cell_settled ≡ settled_as (length search.journal) (length cells) event)
      (lemma : Option Pair) (lemma_is : lemma ≡ lemma_made (map (λ (one : Kept). one.pair) board.kept) event) (cells_settled : List Cell) (are_settled : AreSettled cells (node_of event) cell_settled lemma cells_settled)
      (cells_moved : List Cell) (cells_are : cells_moved ≡ cells_settled ++ cells_of_cases (node_of event) (length closures) cases) (closures_moved : List Closure) (closures_are : closures_moved ≡ closures ++ closures_of cases)
      (journal : List Event) (journal_is : journal ≡ search.journal ++ event ∷ []) where
    after_stand : StandForBoard journal after cells_moved closures_moved lemmas lemma_nodes
    after_stand =
        let (cell, there, stands) = cell_at search.journal closures board.kept 0 cells board.nodes keeping.stand.nodes (node_of event) node lawful.is in
        let moves = moved_stand setting board facts search.journal closures lemmas keeping.stand.pairs cells keeping.stand.nodes node event lawful.is unclosed cell there in
        let made : cases ≡ cases_made node.lits node.barred event = are node lawful.is in
        let settled_same : cell_settled ≡ settled_as (length search.journal) (length board.nodes) event = settled_is ∙ ap (λ n. settled_as (length search.journal) n event) (nodes_kept search cells closures lemmas lemma_nodes tally keeping) in
        let lemma_same : lemma ≡ lemma_made lemmas event = lemma_is ∙ ap (λ all. lemma_made all event) (sym keeping.stand.pairs) in
        let settled_are : cells_settled ≡ slice_set cells (node_of event) (settled_cell (settled_as (length search.journal) (length board.nodes) event) (lemma_made lemmas event) cell) =
        are_settled cell there ∙ ap₂ (λ one pair. slice_set cells (node_of event) (settled_cell one pair cell)) settled_same lemma_same in
        let all_cells : cells_moved ≡ slice_set cells (node_of event) (settled_cell (settled_as (length search.journal) (length board.nodes) event) (lemma_made lemmas event) cell) ++ cells_of_cases (node_of event) (length closures) (cases_made node.lits node.barred event) =
        cells_are ∙ ap₂ (λ some more. some ++ cells_of_cases (node_of event) (length closures) more) settled_are made in
        let all_closures : closures_moved ≡ closures ++ closures_of (cases_made node.lits node.barred event) = closures_are ∙ ap (λ more. closures ++ closures_of more) made in
        record {
          nodes =
              subst (λ events. StandForNodes events closures_moved board.kept 0 cells_moved after.nodes) (sym journal_is)
              (subst (λ reasons. StandForNodes (search.journal ++ event ∷ []) reasons board.kept 0 cells_moved after.nodes) (sym all_closures)
              (subst (λ all. StandForNodes (search.journal ++ event ∷ []) (closures ++ closures_of (cases_made node.lits node.barred event)) board.kept 0 all after.nodes) (sym all_cells) moves));
          pairs = keeping.stand.pairs;
          owners = keeping.stand.owners;
        }

    start_is : slice_get after.nodes (node_of event) ≡ Some (settled board node event)
    start_is = there_now board.nodes (born board node event) (node_of event) node (settled board node event) lawful.is

    pub moved_somewhere : StandSomewhere journal (node_of event) cells_moved lemmas lemma_nodes
    moved_somewhere = record {
      search = search;
      board = after;
      node = settled board node event;
      closures = closures_moved;
      facts = after_facts;
      is = start_is;
      stand = after_stand;
    }

    -- ---- the climb

    module _ (cells_after : List Cell) (lemmas_after : List Pair) (owners_after : List ℕ) (climbs : Climbs journal (node_of event) cells_moved lemmas lemma_nodes cells_after lemmas_after owners_after) where
      board_is : climb setting (settled board node event).path after ≡ board_of (record search { journal = search.journal ++ event ∷ [] })
      board_is =
          ap (λ path. climb setting path after) (settled_keeps board node event).path
          ∙ (sym (effect_is setting board event node lawful.is) ∙ sym (replay_more setting search.journal opening event))

      end_stand : StandForBoard (search.journal ++ event ∷ []) (board_of (record search { journal = search.journal ++ event ∷ [] })) cells_after closures_moved lemmas_after owners_after
      end_stand =
          subst (λ one. StandForBoard (search.journal ++ event ∷ []) one cells_after closures_moved lemmas_after owners_after) board_is
          (subst (λ events. StandForBoard events (climb setting (settled board node event).path after) cells_after closures_moved lemmas_after owners_after) journal_is
          (climbs search after (settled board node event) closures_moved after_facts start_is after_stand))

      end_few : length closures_moved ≤ length cells_after
      end_few =
          let seen = length_seen (search.journal ++ event ∷ []) closures_moved (board_of (record search { journal = search.journal ++ event ∷ [] })).kept 0 cells_after (board_of (record search { journal = search.journal ++ event ∷ [] })).nodes end_stand.nodes in
          let same = ap (λ (one : Board). length one.nodes) (replay_more setting search.journal opening event) in
          let size = effect_size cases are in
          let reasons = ap length closures_are ∙ length-append closures (closures_of cases) in
          let fewer = closures-cases cases in
          let few = keeping.few in
          omega (arith, seen, same, size, reasons, fewer, few)

      pub event_kept : (children : ℕ) → children ≡ length cases - length (closures_of cases) → IsKeeping (record search { journal = journal }) cells_after closures_moved lemmas_after owners_after (tally_after tally event children)
      event_kept children is = subst (λ events. IsKeeping (record search { journal = events }) cells_after closures_moved lemmas_after owners_after (tally_after tally event children)) (sym journal_is) (record {
        problem = keeping.problem;
        budget = keeping.budget;
        weight = keeping.weight;
        lawful = lawful_more setting search.journal opening event keeping.lawful lawful;
        stand = end_stand;
        count = sym counted ∙ ap count (sym (replay_more setting search.journal opening event));
        tallied = subst (λ one. IsTally one (tally_after tally event children)) (sym (replay_more setting search.journal opening event)) (effect_tally setting board event lawful tally keeping.tallied children (children_are cases are children is));
        few = end_few;
      })
