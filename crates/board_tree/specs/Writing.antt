-- How the lines of a tree are written, one node at a time.
use Rattle.std.specs.List.{flat_map}
use Rattle.std.specs.Prelude.{◌≡◌, ℕ, ◌<◌, ◌++◌, All, List, [], length, Option, Some, None, reverse, slice_get, option_and_then}
use Rattle.tree_board.specs.Boards.{Board}
use Rattle.tree_board.specs.Nodes.{Node}
use Rattle.tree_checker.specs.declared.doc.TreeLine.{TreeLine}
use Rattle.board_tree.specs.Lines.{line_of, kids_of, lines_within}

-- the line of the node with this number in its own place, where there is one
abbrev pub line_at : Board → ℕ → Option TreeLine
line_at board number = option_and_then (λ (node : Node). line_of board.nodes node.state) (slice_get board.nodes number)

abbrev pub kids_of_found : Option Node → List ℕ
kids_of_found None = []
kids_of_found (Some node) = kids_of node.state

-- the children of the node with this number, in order
abbrev pub kids_at : Board → ℕ → List ℕ
kids_at board number = kids_of_found (slice_get board.nodes number)

-- each number is that of a node
abbrev pub AreNodes : Board → List ℕ → Type 0
AreNodes board numbers = All (λ number. number < length board.nodes) numbers

-- the lines of nodes that wait, the last one first
abbrev pub lines_waiting : Board → List ℕ → List TreeLine
lines_waiting board waiting = flat_map (λ n. lines_within board n) (reverse waiting)

-- these lines stand behind the written ones, or wait in their place
pub record Writes (board : Board) (lines : List TreeLine) (written : List TreeLine) (waiting : List ℕ) (written_now : List TreeLine) (waiting_now : List ℕ) : Type 0 where
  pub same : written_now ++ lines_waiting board waiting_now ≡ written ++ (lines ++ lines_waiting board waiting)
  pub nodes : AreNodes board waiting → AreNodes board waiting_now
  pub more : length written < length written_now
