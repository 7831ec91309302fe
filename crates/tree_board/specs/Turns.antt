-- The walk to the first open node without a stack: what is left behind a node.
use Rattle.std.specs.Prelude.{ℕ, Bool, List, None, Option, Some, [], false, length, nat_eq, slice_get, suc, true, ◌+◌, ◌<◌, ◌∷◌, ◌≡◌, ◌≢◌, ◌≤◌}
use Rattle.mg_word.specs.Facts.{IsProblem}
use Rattle.mg_word.specs.declared.form.Inst.{Inst}
use Rattle.mg_word.specs.declared.lit.Lit.{Lit}
use Rattle.tree_board.specs.Boards.{Board}
use Rattle.tree_board.specs.FirstOpen.{first_among, first_of, first_open_from}
use Rattle.tree_board.specs.Lawful.{IsReplay}
use Rattle.tree_board.specs.NodeStates.{Covered, Found, Heavy, NodeState, Open, Rejected, Settled, Shut, Split}
use Rattle.tree_board.specs.Nodes.{Node}
use Rattle.tree_board.specs.Settings.{Setting}

abbrev pub later_by : Bool → Option ℕ → Option ℕ → Option ℕ
later_by true here further = here
later_by false here further = further

-- of the children for these conclusions, numbered from there: that of those after the number
abbrev pub later_among : (ℕ → Option ℕ) → ℕ → List Lit → ℕ → Option ℕ
later_among go first [] number = None
later_among go first (lit ∷ more) number = later_by (nat_eq first number) (first_among go (suc first) more) (later_among go (suc first) more number)

abbrev pub later_of : (ℕ → Option ℕ) → ℕ → NodeState → Option ℕ
later_of go number (Split inst first) = later_among go first inst.conclusions number
later_of go number Open = None
later_of go number (Rejected inst) = None
later_of go number (Settled lemma) = None
later_of go number (Shut closure) = None
later_of go number Found = None
later_of go number (Covered by) = None
later_of go number (Heavy inst) = None

abbrev pub later_at : (ℕ → Option ℕ) → ℕ → Option Node → Option ℕ
later_at go number None = None
later_at go number (Some parent) = later_of go number parent.state

-- behind the node of a path and all below it: among its later siblings, else behind its parent
abbrev pub behind : List Node → (ℕ → Option ℕ) → List ℕ → Option ℕ
behind nodes go [] = None
behind nodes go (number ∷ []) = None
behind nodes go (number ∷ parent ∷ above) = first_of (later_at go number (slice_get nodes parent)) (behind nodes go (parent ∷ above))

-- at a node and below it
abbrev pub down : Board → ℕ → Option ℕ
down board number = first_open_from board.nodes (length board.nodes) number

-- behind it
abbrev pub up : Board → List ℕ → Option ℕ
up board path = behind board.nodes (λ n. down board n) path

-- the turns of the walk: an open node is found; at a split one it goes down to the first child; at another it goes up;
-- going up, it goes on at the next sibling, or up from the parent, and ends at the root
pub record WalkTurns (board : Board) : Type 0 where
  pub found : (number : ℕ) (node : Node) → slice_get board.nodes number ≡ Some node → node.state ≡ Open → down board number ≡ Some number
  pub to_child : (number : ℕ) (node : Node) (inst : Inst) (first : ℕ) → slice_get board.nodes number ≡ Some node → node.state ≡ Split inst first → 0 < length inst.conclusions
      → first_of (down board number) (up board node.path) ≡ first_of (down board first) (up board (first ∷ node.path))
  pub childless : (number : ℕ) (node : Node) → slice_get board.nodes number ≡ Some node → node.state ≢ Open → ((inst : Inst) (first : ℕ) → node.state ≡ Split inst first → inst.conclusions ≡ []) → down board number ≡ None
  pub to_sibling : (number parent : ℕ) (above : List ℕ) (node : Node) (inst : Inst) (first : ℕ) → slice_get board.nodes parent ≡ Some node → node.state ≡ Split inst first → first ≤ number → suc number < first + length inst.conclusions
      → up board (number ∷ parent ∷ above) ≡ first_of (down board (suc number)) (up board (suc number ∷ parent ∷ above))
  pub to_parent : (number parent : ℕ) (above : List ℕ) (node : Node) (inst : Inst) (first : ℕ) → slice_get board.nodes parent ≡ Some node → node.state ≡ Split inst first → first ≤ number → suc number ≡ first + length inst.conclusions
      → up board (number ∷ parent ∷ above) ≡ up board (parent ∷ above)
  pub ended : up board (0 ∷ []) ≡ None

abbrev pub WalkGoesByTurns : Type 0
WalkGoesByTurns = (setting : Setting) (board : Board) → IsProblem setting.problem → IsReplay setting board → WalkTurns board
