-- What the fields keep when an event comes, of the search that callers see and of numbers that were read.
use Rattle.std.proofs.Common.{◌≡◌, ℕ, zero, suc, ◌+◌, ◌-◌, ◌<◌, ◌≤◌, ◌^◌, List, [], ◌∷◌, ◌++◌, length, map, slice_get, slice_set, Option, Some, refl, sym, ap, subst, ◌∙◌, arith}
use Rattle.mg_meaning.specs.Folding.{Pair}
use Rattle.case_split.specs.declared.child.Child.{Child}
use Rattle.case_split.specs.declared.child.Closure.{Closure}
use Rattle.tree_board.specs.declared.cell.Cell.{Cell}
use Rattle.tree_board.specs.declared.cell.Settled.{Settled}
use Rattle.tree_board.specs.declared.event.Event.{Event}
use Rattle.tree_board.specs.Boards.{Kept}
use Rattle.tree_board.specs.CellClimbs.{StandSomewhere, Climbs, StandGrown, Grow}
use Rattle.tree_board.specs.CellMoves.{settled_as, lemma_made, settled_cell, cells_of_cases, closures_of, AreCases, grown}
use Rattle.tree_board.specs.Events.{node_of, extends_in}
use Rattle.tree_board.specs.declared.tally.Tally.{Tally}
use Rattle.tree_board.specs.Keeping.{IsKeeping}
use Rattle.tree_board.specs.Lawful.{IsLawful}
use Rattle.tree_board.specs.Searches.{Search, setting_of, board_of}
use Rattle.tree_board.specs.Tallies.{tally_after}
use Rattle.tree_board.proofs.EventKeeping.{AreSettled, few_cases, few_events, few_extends, few_opens, some_opens, event_kept, moved_somewhere}
use Rattle.tree_board.proofs.Kept.{few_cells, nodes_kept}
use Rattle.tree_board.proofs.Places.{same_some, within}
use Rattle.tree_board.proofs.Restores.{set_left}

some_at : {X : Type 0} (xs : List X) (index : ℕ) → index < length xs → (x : X) × (slice_get xs index ≡ Some x)
some_at [] index small = absurd (omega (arith, small))
some_at (x ∷ xs) zero small = (x, refl)
some_at (x ∷ xs) (suc index) small = some_at xs index (omega (arith, small))

module _ (search value : Search) (same : search ≡ value) (cells : List Cell) (closures : List Closure) (lemmas : List Pair) (lemma_nodes : List ℕ) (tally : Tally) (keeping : IsKeeping search cells closures lemmas lemma_nodes tally)
    (event : Event) (lawful : IsLawful (setting_of value) (board_of value) event) where
  lawful_here : IsLawful (setting_of search) (board_of search) event
  lawful_here = subst (λ one. IsLawful (setting_of one) (board_of one) event) (sym same) lawful

  cases_here : (cases : List Child) → AreCases (board_of value) event cases → AreCases (board_of search) event cases
  cases_here cases are = subst (λ one. AreCases (board_of one) event cases) (sym same) are

  pub seen_events : length search.journal < 2 ^ 32
  seen_events = few_events search cells closures lemmas lemma_nodes tally keeping event lawful_here

  pub seen_extends : tally.extensions + extends_in (event ∷ []) < 2 ^ 32
  seen_extends = few_extends search cells closures lemmas lemma_nodes tally keeping event lawful_here

  pub seen_some : 0 < tally.opens
  seen_some = some_opens search cells closures lemmas lemma_nodes tally keeping event lawful_here

  pub seen_opens : (cases : List Child) → AreCases (board_of value) event cases → (children : ℕ) → children ≤ length cases → tally.opens + children ≤ 2 ^ 32
  seen_opens cases are children fewer = few_opens search cells closures lemmas lemma_nodes tally keeping event lawful_here cases (cases_here cases are) children fewer

  pub seen_cells : length cells < 2 ^ 32
  seen_cells = few_cells search cells closures lemmas lemma_nodes tally keeping

  pub seen_cases : (cases : List Child) → AreCases (board_of value) event cases → length closures + length cases < 2 ^ 32
  seen_cases cases are = few_cases search cells closures lemmas lemma_nodes tally keeping event lawful_here cases (cases_here cases are)

  module _ (number : ℕ) (number_is : number ≡ node_of event) where
    pub seen_within : number < length cells
    seen_within =
        let small = within (board_of search).nodes (node_of event) lawful_here.node lawful_here.is in
        let size = nodes_kept search cells closures lemmas lemma_nodes tally keeping in
        omega (arith, small, size, number_is)

    module _ (cases : List Child) (are : AreCases (board_of value) event cases) (cell_settled : Settled) (settled_is : cell_settled ≡ settled_as (length search.journal) (length cells) event)
        (lemma : Option Pair) (lemma_is : lemma ≡ lemma_made (map (λ (one : Kept). one.pair) (board_of value).kept) event) (children : List Cell) (children_are : children ≡ cells_of_cases number (length closures) cases)
        (closures_after : List Closure) (closures_are : closures_after ≡ closures ++ closures_of cases) (journal shown : List Event) (journal_is : journal ≡ search.journal ++ event ∷ []) (shown_is : shown ≡ journal) where
      lemma_here : lemma ≡ lemma_made (map (λ (one : Kept). one.pair) (board_of search).kept) event
      lemma_here = lemma_is ∙ ap (λ (one : Search). lemma_made (map (λ (one : Kept). one.pair) (board_of one).kept) event) (sym same)

      abbrev with_settled : Cell → List Cell
      with_settled cell = slice_set cells number (settled_cell cell_settled lemma cell)

      settled_here : (cell : Cell) → slice_get cells number ≡ Some cell → AreSettled cells (node_of event) cell_settled lemma (with_settled cell)
      settled_here cell at other there =
          let one : cell ≡ other = same_some cell other (sym at ∙ (ap (slice_get cells) number_is ∙ there)) in
          ap with_settled one ∙ ap (λ n. slice_set cells n (settled_cell cell_settled lemma other)) number_is

      grown_here : (cell : Cell) → grown cells number cell_settled lemma cell children ≡ with_settled cell ++ cells_of_cases (node_of event) (length closures) cases
      grown_here cell =
          set_left cells children number (settled_cell cell_settled lemma cell) seen_within
          ∙ ap (λ more. with_settled cell ++ more) (children_are ∙ ap (λ n. cells_of_cases n (length closures) cases) number_is)

      pub seen_grown : StandGrown shown number cells cell_settled lemma children lemmas lemma_nodes
      seen_grown cell at = subst (λ n. StandSomewhere shown n (grown cells number cell_settled lemma cell children) lemmas lemma_nodes) (sym number_is)
          (moved_somewhere search cells closures lemmas lemma_nodes tally keeping event lawful_here cases (cases_here cases are) cell_settled settled_is lemma lemma_here (with_settled cell) (settled_here cell at)
          (grown cells number cell_settled lemma cell children) (grown_here cell) closures_after closures_are shown (shown_is ∙ journal_is))

      pub seen_kept : (cells_after : List Cell) (lemmas_after : List Pair) (owners_after : List ℕ) → Grow shown number cells cell_settled lemma children lemmas lemma_nodes cells_after lemmas_after owners_after → (open_children : ℕ) → open_children ≡ length cases - length (closures_of cases)
          → (after : Tally) → after ≡ tally_after tally event open_children → IsKeeping (record search { journal = journal }) cells_after closures_after lemmas_after owners_after after
      seen_kept cells_after lemmas_after owners_after grows open_children open_are after after_is =
          let (cell, at) = some_at cells number seen_within in
          subst (IsKeeping (record search { journal = journal }) cells_after closures_after lemmas_after owners_after) (sym after_is)
          (subst (λ events. IsKeeping (record search { journal = events }) cells_after closures_after lemmas_after owners_after (tally_after tally event open_children)) shown_is
          (event_kept search cells closures lemmas lemma_nodes tally keeping event lawful_here cases (cases_here cases are) cell_settled settled_is lemma lemma_here (with_settled cell) (settled_here cell at)
          (grown cells number cell_settled lemma cell children) (grown_here cell) closures_after closures_are shown (shown_is ∙ journal_is) cells_after lemmas_after owners_after
          (subst (λ n. Climbs shown n (grown cells number cell_settled lemma cell children) lemmas lemma_nodes cells_after lemmas_after owners_after) number_is (grows cell at)) open_children open_are))
