-- The way from the root to a node, as one who goes through the tree holds it.
use Rattle.std.specs.Prelude.{ℕ, List, Option, Some, [], false, length, option_and_then, slice_get, take, ◌++◌, ◌+◌, ◌-◌, ◌||◌, ◌∷◌, ◌≡◌}
use Rattle.std.specs.Option.{option_to_list}
use Rattle.mg_word.specs.Facts.{ProblemData}
use Rattle.mg_word.specs.Sets.{holds}
use Rattle.mg_word.specs.Words.{complement_of}
use Rattle.mg_word.specs.declared.form.Inst.{Inst}
use Rattle.mg_word.specs.declared.lit.Lit.{Lit}
use Rattle.case_split.specs.Splitting.{closure_by}
use Rattle.case_split.specs.declared.child.Closure.{Closure}
use Rattle.key_watch.specs.Keys.{keys_of}
use Rattle.key_watch.specs.declared.key.Key.{Key}
use Rattle.tree_board.specs.declared.path.Path.{Path}
use Rattle.tree_board.specs.Barring.{cases_before}
use Rattle.tree_board.specs.Boards.{Board}
use Rattle.tree_board.specs.NodeStates.{is_shut}
use Rattle.tree_board.specs.Nodes.{Node}
use Rattle.tree_board.specs.PathReads.{HasRead}
use Rattle.tree_board.specs.Readers.{case_in, first_child_of, instance_of, shown}
use Rattle.tree_board.specs.Searches.{Search, board_of}

-- what the nodes of a path bar, from the root on: of each the conclusions before its own
abbrev pub bars_along : List Node → List ℕ → List Lit
bars_along nodes [] = []
bars_along nodes (number ∷ []) = []
bars_along nodes (number ∷ parent ∷ above) = bars_along nodes (parent ∷ above) ++ cases_before (shown instance_of nodes parent) (shown first_child_of nodes parent) number

-- the literal of a child, by the number of its parent
abbrev pub literal_by : List Node → ℕ → ℕ → Option Lit
literal_by nodes number parent = option_and_then (λ first. option_and_then (λ (inst : Inst). case_in inst first number) (shown instance_of nodes parent)) (shown first_child_of nodes parent)

-- the keys of a path, from the root on: of each node its literal, held, and the conclusions before its own, barred
abbrev pub keys_along : List Node → List ℕ → List Key
keys_along nodes [] = []
keys_along nodes (number ∷ []) = []
keys_along nodes (number ∷ parent ∷ above) =
    keys_along nodes (parent ∷ above) ++ keys_of (option_to_list (literal_by nodes number parent)) (cases_before (shown instance_of nodes parent) (shown first_child_of nodes parent) number)

-- the path leads to the node of the search with its number: it holds that node's literals, and what the nodes on the way bar; its watch has the keys on the way
pub record LeadsTo (search : Search) (path : Path) : Type 0 where
  pub node : Node
  pub is : slice_get (board_of search).nodes path.node ≡ Some node
  pub problem : path.branch.problem ≡ search.problem
  pub lits : path.branch.lits ≡ node.lits
  pub barred : path.barred ≡ bars_along (board_of search).nodes node.path
  pub keys : path.watch.path ≡ keys_along (board_of search).nodes node.path
  pub reads : HasRead search path.watch.sets path.lemmas_read path.events_read

-- the path leads to the root of a search of this problem, and nothing was read yet
pub record IsAtRoot (problem : ProblemData) (path : Path) : Type 0 where
  pub node : path.node ≡ 0
  pub branch : path.branch ≡ record { problem = problem; lits = [] }
  pub barred : path.barred ≡ []
  pub watch : path.watch ≡ record { sets = []; path = [] }
  pub lemmas : path.lemmas_read ≡ 0
  pub events : path.events_read ≡ 0

-- the path has gone on to a child, which has this literal and bars these beside what its parent bars
pub record HasEntered (before : Path) (child : ℕ) (lit : Lit) (earlier : List Lit) (after : Path) : Type 0 where
  pub node : after.node ≡ child
  pub branch : after.branch ≡ record before.branch { lits = before.branch.lits ++ lit ∷ [] }
  pub barred : after.barred ≡ before.barred ++ earlier
  pub watch : after.watch ≡ record before.watch { path = before.watch.path ++ keys_of (lit ∷ []) earlier }
  pub lemmas : after.lemmas_read ≡ before.lemmas_read
  pub events : after.events_read ≡ before.events_read

-- the path has gone back to the parent, without the last literal and without so many that are barred
pub record HasLeft (before : Path) (parent count : ℕ) (after : Path) : Type 0 where
  pub node : after.node ≡ parent
  pub branch : after.branch ≡ record before.branch { lits = take (length before.branch.lits - 1) before.branch.lits }
  pub barred : after.barred ≡ take (length before.barred - count) before.barred
  pub watch : after.watch ≡ record before.watch { path = take (length before.watch.path - (count + 1)) before.watch.path }
  pub lemmas : after.lemmas_read ≡ before.lemmas_read
  pub events : after.events_read ≡ before.events_read

-- the node with this number was not closed at once
abbrev pub IsUnshut : Board → ℕ → Type 0
IsUnshut board number = (node : Node) → slice_get board.nodes number ≡ Some node → is_shut node.state ≡ false

-- from the first node up to one above it, these nodes were met, that one left out
pub record HasMet (nodes : List Node) (number top : ℕ) (met : List ℕ) : Type 0 where
  pub low : Node
  pub starts : slice_get nodes number ≡ Some low
  pub high : Node
  pub is : slice_get nodes top ≡ Some high
  pub path : low.path ≡ met ++ high.path

-- the path leads to a node from which these lead to that one
abbrev pub LeadsNear : Search → ℕ → Path → List ℕ → Type 0
LeadsNear search number path met = LeadsTo search path × HasMet (board_of search).nodes number path.node met

-- ---- why cases are closed at once

-- of cases that come after the earlier ones, where these literals are held and those barred
abbrev pub reasons_from : List Lit → List Lit → List Lit → List Lit → List (Option Closure)
reasons_from held bars earlier [] = []
reasons_from held bars earlier (lit ∷ lits) =
    closure_by (holds held (complement_of lit)) (holds bars lit || holds earlier lit) lit ∷ reasons_from held bars (earlier ++ lit ∷ []) lits
