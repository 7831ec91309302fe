-- What a board counts as events come.
use Rattle.std.specs.List.{position}
use Rattle.std.specs.Prelude.{◌≡◌, ◌+◌, ◌-◌, ◌||◌, ℕ, Bool, true, false, cond, nat_lt, List, [], ◌∷◌, Option, Some, None}
use Rattle.tree_board.specs.declared.event.Event.{Event}
use Rattle.tree_board.specs.declared.event.Event.TheVariants.{ByLemma, Covered as CoveredBy, Extend, Heavy as TooHeavy, Reject, Saturated}
use Rattle.tree_board.specs.declared.mode.Mode.{Mode}
use Rattle.tree_board.specs.declared.mode.Mode.TheVariants.{List as ListAll, Refute}
use Rattle.tree_board.specs.declared.tally.Tally.{Tally}
use Rattle.tree_board.specs.Boards.{Board}
use Rattle.tree_board.specs.Events.{extends_in}
use Rattle.tree_board.specs.NodeStates.{is_found, is_open}
use Rattle.tree_board.specs.Nodes.{Node}
use Rattle.tree_board.specs.Splits.{one_if}
use Rattle.tree_board.specs.Standing.{some_heavy}

-- the number of open nodes
abbrev pub opens_in : List Node → ℕ
opens_in [] = 0
opens_in (node ∷ nodes) = one_if (is_open node.state) + opens_in nodes

-- the tally counts the nodes of the board
pub record IsTally (board : Board) (tally : Tally) : Type 0 where
  pub opens : tally.opens ≡ opens_in board.nodes
  pub heavy : tally.has_heavy ≡ some_heavy board
  pub found : tally.least_found ≡ position (λ node. is_found node.state) board.nodes

-- in mode Refute, the least found node
abbrev pub model_in : Mode → Option ℕ → Option ℕ
model_in Refute found = found
model_in ListAll found = None

-- ---- after an event

abbrev pub makes_heavy : Event → Bool
makes_heavy (TooHeavy number inst) = true
makes_heavy (Extend number inst) = false
makes_heavy (Reject number inst) = false
makes_heavy (ByLemma number lemma) = false
makes_heavy (Saturated number) = false
makes_heavy (CoveredBy number cover) = false

-- the least of a number and another one, if there is one
abbrev pub least_with : ℕ → Option ℕ → ℕ
least_with number None = number
least_with number (Some other) = cond (nat_lt other number) other number

-- the least found node
abbrev pub found_after : Option ℕ → Event → Option ℕ
found_after found (Saturated number) = Some (least_with number found)
found_after found (Extend number inst) = found
found_after found (Reject number inst) = found
found_after found (ByLemma number lemma) = found
found_after found (CoveredBy number cover) = found
found_after found (TooHeavy number inst) = found

-- where the event makes so many open children
abbrev pub tally_after : Tally → Event → ℕ → Tally
tally_after tally event children = record {
  extensions = tally.extensions + extends_in (event ∷ []);
  opens = tally.opens - 1 + children;
  has_heavy = tally.has_heavy || makes_heavy event;
  least_found = found_after tally.least_found event;
}
