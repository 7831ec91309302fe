-- Laws of the boards that lawful journals leave.
use Rattle.std.specs.Prelude.{ℕ, IsTrue, List, Some, [], drop, false, length, slice_get, ◌*◌, ◌++◌, ◌+◌, ◌<◌, ◌∷◌, ◌≡◌, ◌≢◌, ◌≤◌, ◌⊎◌}
use Rattle.std.specs.declared.cmp.Ordering.TheVariants.{Less}
use Rattle.mg_word.specs.Facts.{IsProblem}
use Rattle.mg_word.specs.Sets.{is_clash_free, is_part}
use Rattle.mg_word.specs.Words.{numbered}
use Rattle.mg_word.specs.declared.lit.Lit.{Lit}
use Rattle.mg_meaning.specs.Excluding.{Covers, Excludes, obeys, passes}
use Rattle.mg_meaning.specs.Minimality.{IsMinimal}
use Rattle.mg_meaning.specs.Satisfaction.{Satisfies}
use Rattle.tree_board.specs.Boards.{Board, Kept, count, is_closed, opening}
use Rattle.tree_board.specs.Effects.{effect, replay_from}
use Rattle.tree_board.specs.Events.{insts_in, node_of}
use Rattle.tree_board.specs.Facts.{IsAmong, IsBoard}
use Rattle.tree_board.specs.Lawful.{AreLawful, IsLawful, IsReplay}
use Rattle.tree_board.specs.Leaves.{ListsMinimalFound}
use Rattle.tree_board.specs.NodeStates.{Found, Heavy, Open, is_live}
use Rattle.tree_board.specs.Nodes.{Node}
use Rattle.tree_board.specs.Settings.{Setting}
use Rattle.tree_board.specs.Splits.{splits_below}
use Rattle.tree_board.specs.Standing.{state_of}
use Rattle.tree_board.specs.Stuck.{IsBlockedAt}
use Rattle.tree_board.specs.TreeOrder.{tree_cmp}
use Rattle.tree_board.specs.declared.event.Event.{Event}
use Rattle.tree_board.specs.declared.mode.BoardState.TheVariants.{Closed, Complete}
use Rattle.tree_board.specs.declared.mode.Mode.TheVariants.{Refute}

-- the facts hold of every board that a lawful journal leaves
abbrev pub ReplaysAreBoards : Type 0
ReplaysAreBoards = (setting : Setting) (board : Board) → IsProblem setting.problem → IsReplay setting board → IsBoard setting board

-- a node that the set passes
pub record PassesAt (board : Board) (set : List Lit) (number : ℕ) (node : Node) : Type 0 where
  pub is : slice_get board.nodes number ≡ Some node
  pub passing : IsTrue (passes set node.lits node.barred)

-- a live node that the set passes
pub record PassesLive (board : Board) (set : List Lit) : Type 0 where
  pub number : ℕ
  pub node : Node
  pub passing : PassesAt board set number node
  pub live : IsTrue (is_live node.state)

-- each clash-free set, of whatever literals, that obeys the instances used passes an open, heavy, found or covered node
abbrev pub EachPassesLive : Type 0
EachPassesLive = (setting : Setting) (board : Board) → IsProblem setting.problem → IsReplay setting board → (set : List Lit) → IsTrue (is_clash_free set) → IsTrue (obeys (insts_in board.journal) set) → PassesLive board set

-- the set is that of a found node, up to order
pub record IsSetOfFound (board : Board) (set : List Lit) : Type 0 where
  pub number : ℕ
  pub node : Node
  pub is : slice_get board.nodes number ≡ Some node
  pub found : node.state ≡ Found
  pub there : IsTrue (is_part node.lits set)
  pub back : IsTrue (is_part set node.lits)

-- an open or heavy node that the set passes
pub record PassesUndone (board : Board) (set : List Lit) : Type 0 where
  pub number : ℕ
  pub node : Node
  pub passing : PassesAt board set number node
  pub undone : (node.state ≡ Open) ⊎ ((inst : _) × (node.state ≡ Heavy inst))

-- no minimal set is lost: each is a found set or passes an open or a heavy node; found sets satisfy and are different; kept lemmas exclude
pub record NoneIsLost (setting : Setting) (board : Board) : Type 0 where
  pub minimal : (set : List Lit) → IsMinimal set setting.problem → IsSetOfFound board set ⊎ PassesUndone board set
  pub satisfy : (number : ℕ) (node : Node) → slice_get board.nodes number ≡ Some node → node.state ≡ Found → Satisfies node.lits setting.problem
  pub different : (a b : ℕ) (one two : Node) → slice_get board.nodes a ≡ Some one → slice_get board.nodes b ≡ Some two → one.state ≡ Found → two.state ≡ Found → IsTrue (is_part one.lits two.lits) → IsTrue (is_part two.lits one.lits) → a ≡ b
  pub exclude : (lemma : ℕ) (kept : Kept) → numbered board.kept lemma ≡ Some kept → Excludes setting.problem kept.pair.inside kept.pair.outside

abbrev pub NoMinimalIsLost : Type 0
NoMinimalIsLost = (setting : Setting) (board : Board) → IsProblem setting.problem → IsReplay setting board → NoneIsLost setting board

-- where nothing is left to do, the instances used cover the minimal sets among the leaves
abbrev pub CompleteCovers : Type 0
CompleteCovers = (setting : Setting) (board : Board) → IsProblem setting.problem → IsReplay setting board → (state_of setting board ≡ Complete) ⊎ (state_of setting board ≡ Closed)
    → (sets : List (List Lit)) → ListsMinimalFound setting board sets → Covers (insts_in board.journal) sets

-- each extension stands at the root or below it
abbrev pub CountIsSplits : Type 0
CountIsSplits = (setting : Setting) (board : Board) → IsProblem setting.problem → IsReplay setting board → count board ≡ splits_below 0 board.nodes

-- at an open node at most one event is lawful
abbrev pub OneIsLawful : Type 0
OneIsLawful = (setting : Setting) (board : Board) (this that : Event) → IsLawful setting board this → IsLawful setting board that → node_of this ≡ node_of that → this ≡ that

-- where no node is live, the root is closed: each node whose children are all closed has been closed
abbrev pub DeadIsClosed : Type 0
DeadIsClosed = (setting : Setting) (board : Board) → IsProblem setting.problem → IsReplay setting board
    → ((number : ℕ) (node : Node) → slice_get board.nodes number ≡ Some node → is_live node.state ≡ false) → IsTrue (is_closed board 0)

-- in mode Refute a board is never complete: it ends closed, with a model, or blocked
abbrev pub RefuteIsNeverComplete : Type 0
RefuteIsNeverComplete = (setting : Setting) (board : Board) → IsProblem setting.problem → IsReplay setting board → setting.mode ≡ Refute → state_of setting board ≡ Complete → ⊥

-- a lawful event at the node
pub record HasEvent (setting : Setting) (board : Board) (number : ℕ) : Type 0 where
  pub event : Event
  pub here : node_of event ≡ number
  pub lawful : IsLawful setting board event

-- at each open node an event is lawful, or the node waits for an extension and the budget is spent
abbrev pub OpenIsDue : Type 0
OpenIsDue = (setting : Setting) (board : Board) → IsProblem setting.problem → (number : ℕ) (node : Node) → slice_get board.nodes number ≡ Some node → node.state ≡ Open
    → HasEvent setting board number ⊎ (IsBlockedAt setting board node × (setting.limits.budget ≤ count board))

-- an extension makes at most 64 nodes, and each event settles a node of its own
pub record IsBounded (board : Board) : Type 0 where
  pub nodes : length board.nodes ≤ 1 + 64 * count board
  pub events : length board.journal ≤ length board.nodes

abbrev pub BoardsAreBounded : Type 0
BoardsAreBounded = (setting : Setting) (board : Board) → IsProblem setting.problem → IsReplay setting board → IsBounded board

-- tree order is preorder: a node before those below it, and of two children of one node all below the first before all below the second
pub record IsPreorder (board : Board) : Type 0 where
  pub below : (a b : ℕ) (one two : Node) → slice_get board.nodes a ≡ Some one → slice_get board.nodes b ≡ Some two → a ≢ b → IsAmong two.path a → tree_cmp one two ≡ Less
  pub beside : (a b i j : ℕ) (one two first second : Node) → slice_get board.nodes a ≡ Some one → slice_get board.nodes b ≡ Some two → slice_get board.nodes i ≡ Some first → slice_get board.nodes j ≡ Some second
      → drop 1 first.path ≡ drop 1 second.path → i < j → IsAmong one.path i → IsAmong two.path j → tree_cmp one two ≡ Less

abbrev pub TreeOrderIsPreorder : Type 0
TreeOrderIsPreorder = (setting : Setting) (board : Board) → IsProblem setting.problem → IsReplay setting board → IsPreorder board

-- a board that a lawful journal leaves is the replay of its own journal, and each lawful event leads to such a board and adds itself alone
pub record KeepsJournal (setting : Setting) (board : Board) : Type 0 where
  pub lawful : AreLawful setting opening board.journal
  pub replay : replay_from setting opening board.journal ≡ board
  pub more : (event : Event) → IsLawful setting board event → IsReplay setting (effect setting board event) × ((effect setting board event).journal ≡ board.journal ++ event ∷ [])

abbrev pub BoardIsItsJournal : Type 0
BoardIsItsJournal = (setting : Setting) (board : Board) → IsReplay setting board → KeepsJournal setting board
