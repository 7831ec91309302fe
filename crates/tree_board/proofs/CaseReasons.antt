-- The cases of an event that may come next, and why they are closed at once.
use Rattle.std.proofs.Common.{◌≡◌, ℕ, List, Option, Some, slice_get, sym, ap, ◌∙◌}
use Rattle.case_split.specs.declared.child.Child.{Child}
use Rattle.case_split.specs.declared.child.Closure.{Closure}
use Rattle.tree_board.specs.declared.event.Event.{Event}
use Rattle.tree_board.specs.CellMoves.{AreCases, AreReasons, cases_made, reasons_of}
use Rattle.tree_board.specs.Lawful.{IsLawful}
use Rattle.tree_board.specs.Nodes.{Node}
use Rattle.tree_board.specs.Searches.{Search, setting_of, board_of}
use Rattle.tree_board.proofs.Places.{same_some}

module _ (search : Search) (event : Event) (lawful : IsLawful (setting_of search) (board_of search) event) where
  abbrev pub cases_here : List Child
  cases_here = cases_made lawful.node.lits lawful.node.barred event

  pub cases_there : AreCases (board_of search) event cases_here
  cases_there node at = ap (λ (one : Node). cases_made one.lits one.barred event) (same_some lawful.node node (sym lawful.is ∙ at))

  pub reasons_are : (reasons : List (Option Closure)) → AreReasons (board_of search) event reasons → reasons ≡ reasons_of cases_here
  reasons_are reasons are = are lawful.node lawful.is

-- those of the cases
pub reasons_by : (search : Search) (event : Event) (cases : List Child) → AreCases (board_of search) event cases → (reasons : List (Option Closure)) → reasons ≡ reasons_of cases → AreReasons (board_of search) event reasons
reasons_by search event cases are reasons is node at = is ∙ ap reasons_of (are node at)
