-- What holds of every board that a lawful journal leaves.
use Rattle.std.specs.Prelude.{ℕ, Bool, IsTrue, List, None, Some, [], false, length, not, slice_get, suc, true, ◌&&◌, ◌++◌, ◌+◌, ◌<◌, ◌∷◌, ◌≡◌, ◌≢◌, ◌≤◌, ◌⊎◌}
use Rattle.mg_word.specs.Sets.{holds, is_clash_free, is_part, is_proper_part, meets, with_lit}
use Rattle.mg_word.specs.Words.{complement_of, numbered}
use Rattle.mg_word.specs.declared.form.Inst.{Inst}
use Rattle.mg_word.specs.declared.lit.Lit.{Lit}
use Rattle.mg_meaning.specs.Excluding.{ExcludesBy}
use Rattle.mg_meaning.specs.Folding.{Pair, folded, rejecting}
use Rattle.mg_meaning.specs.Instances.{IsInstance, are_literals}
use Rattle.mg_meaning.specs.Violation.{IsLeast, IsSaturated, weight_of}
use Rattle.case_split.specs.declared.child.Closure.{Closure}
use Rattle.case_split.specs.declared.child.Closure.TheVariants.{Barred, Clash}
use Rattle.branch_lemmas.specs.Leaves.{lemma_of}
use Rattle.tree_board.specs.Boards.{Board, Kept, pair_at}
use Rattle.tree_board.specs.Closings.{pairs_at}
use Rattle.tree_board.specs.Events.{insts_in}
use Rattle.tree_board.specs.NodeStates.{Covered, Found, Heavy, NodeState, Open, Rejected, Settled, Shut, Split, is_shut}
use Rattle.tree_board.specs.Nodes.{Node}
use Rattle.tree_board.specs.Settings.{Setting}

-- the item is one of these
abbrev pub IsAmong : {X : Type 0} → List X → X → Type 0
IsAmong [] y = ⊥
IsAmong (x ∷ xs) y = (x ≡ y) ⊎ IsAmong xs y

-- no literal stands twice
abbrev pub all_different : List Lit → Bool
all_different [] = true
all_different (lit ∷ lits) = not (holds lits lit) && all_different lits

-- different literals, none beside its complement, none barred
pub record IsClean (lits barred : List Lit) : Type 0 where
  pub different : IsTrue (all_different lits)
  pub consistent : IsTrue (is_clash_free lits)
  pub unbarred : meets lits barred ≡ false

-- the node with this number is split, and that one is among its children
pub record IsChildOf (nodes : List Node) (number parent : ℕ) : Type 0 where
  pub node : Node
  pub is : slice_get nodes parent ≡ Some node
  pub inst : Inst
  pub first : ℕ
  pub state : node.state ≡ Split inst first
  pub from : first ≤ number
  pub below : number < first + length inst.conclusions

-- each is a child of the next, and the last is the root
abbrev pub IsPath : List Node → List ℕ → Type 0
IsPath nodes [] = ⊥
IsPath nodes (number ∷ []) = number ≡ 0
IsPath nodes (number ∷ parent ∷ above) = IsChildOf nodes number parent × IsPath nodes (parent ∷ above)

-- the child for a conclusion stands at this number
pub record HasChild (nodes : List Node) (number : ℕ) (above : List ℕ) (held bars : List Lit) (lit : Lit) : Type 0 where
  pub node : Node
  pub is : slice_get nodes number ≡ Some node
  pub path : node.path ≡ number ∷ above
  pub lits : node.lits ≡ held ++ lit ∷ []
  pub barred : node.barred ≡ bars

-- one for each conclusion, numbered from there, each of which bars the conclusions before its own
abbrev pub HasChildren : List Node → ℕ → List ℕ → List Lit → List Lit → List Lit → Type 0
HasChildren nodes first above held bars [] = Unit {0}
HasChildren nodes first above held bars (lit ∷ more) = HasChild nodes first above held bars lit × HasChildren nodes (suc first) above held (with_lit bars lit) more

-- a split node's instance, its children, and its lemma where it is closed
pub record IsSplit (setting : Setting) (board : Board) (number : ℕ) (node : Node) (inst : Inst) (first : ℕ) : Type 0 where
  pub least : IsLeast setting.problem node.lits inst
  pub used : IsAmong (insts_in board.journal) inst
  pub later : number < first
  pub children : HasChildren board.nodes first node.path node.lits node.barred inst.conclusions
  pub folded : (pair : Pair) → node.own ≡ Some pair → (pairs : List Pair) × (pairs_at board.nodes first inst.conclusions ≡ Some pairs) × (pair ≡ folded inst pairs)

-- a covered node has the set of the found node as a proper part
pub record IsCovered (board : Board) (node : Node) (by : ℕ) : Type 0 where
  pub other : Node
  pub is : slice_get board.nodes by ≡ Some other
  pub found : other.state ≡ Found
  pub proper : IsTrue (is_proper_part other.lits node.lits)

-- why a child may be closed at once
abbrev pub IsShut : List Lit → List Lit → Closure → Type 0
IsShut lits barred (Clash lit) = IsTrue (holds lits lit) × IsTrue (holds lits (complement_of lit))
IsShut lits barred (Barred lit) = IsTrue (holds lits lit) × IsTrue (holds barred lit)

-- what each state says of its node
abbrev pub StateHolds : Setting → Board → ℕ → Node → NodeState → Type 0
StateHolds setting board number node Open = node.own ≡ None
StateHolds setting board number node (Split inst first) = IsSplit setting board number node inst first
StateHolds setting board number node (Rejected inst) =
    IsLeast setting.problem node.lits inst × (inst.conclusions ≡ []) × IsAmong (insts_in board.journal) inst × (node.own ≡ Some (rejecting inst))
StateHolds setting board number node (Settled lemma) = (pair : Pair) × (pair_at board.kept lemma ≡ Some pair) × (node.own ≡ Some pair)
StateHolds setting board number node (Shut closure) = IsShut node.lits node.barred closure × (node.own ≡ Some (lemma_of closure))
StateHolds setting board number node Found = IsSaturated setting.problem node.lits × (node.own ≡ None)
StateHolds setting board number node (Covered by) = IsCovered board node by × (node.own ≡ None)
StateHolds setting board number node (Heavy inst) = IsLeast setting.problem node.lits inst × (setting.limits.weight < weight_of inst) × (node.own ≡ None)

-- the lemma excludes by the instances used so far, and applies to its own node
pub record IsLemmaOf (board : Board) (node : Node) (pair : Pair) : Type 0 where
  pub excludes : ExcludesBy (insts_in board.journal) pair.inside pair.outside
  pub inside : IsTrue (is_part pair.inside node.lits)
  pub outside : IsTrue (is_part pair.outside node.barred)

-- what holds of each node
pub record IsSound (setting : Setting) (board : Board) (number : ℕ) (node : Node) : Type 0 where
  pub above : List ℕ
  pub path : node.path ≡ number ∷ above
  pub rooted : IsPath board.nodes node.path
  pub fitting : IsTrue (are_literals setting.problem.symbols node.lits)
  -- literals, apart from a child that is closed at once
  pub clean : is_shut node.state ≡ false → IsClean node.lits node.barred
  -- what the state says
  pub state : StateHolds setting board number node node.state
  pub lemma : (pair : Pair) → node.own ≡ Some pair → IsLemmaOf board node pair

-- of two nodes neither of which is above the other, one holds what the other bars
abbrev pub AreApart : List Node → Type 0
AreApart nodes = (a b : ℕ) (one two : Node) → slice_get nodes a ≡ Some one → slice_get nodes b ≡ Some two → is_shut one.state ≡ false → is_shut two.state ≡ false
    → (IsAmong two.path a → ⊥) → (IsAmong one.path b → ⊥) → IsTrue (meets one.lits two.barred) ⊎ IsTrue (meets two.lits one.barred)

-- a kept lemma is that of a closed split node, which has only this one; what settled a node below it, or is kept of one, has a smaller number
pub record IsKept (board : Board) (lemma : ℕ) (one : Kept) : Type 0 where
  pub node : Node
  pub is : slice_get board.nodes one.node ≡ Some node
  pub inst : Inst
  pub first : ℕ
  pub split : node.state ≡ Split inst first
  pub own : node.own ≡ Some one.pair
  pub once : (other : ℕ) (more : Kept) → numbered board.kept other ≡ Some more → more.node ≡ one.node → other ≡ lemma
  pub settled : (k : ℕ) (below : Node) (other : ℕ) → slice_get board.nodes k ≡ Some below → IsAmong below.path one.node → below.state ≡ Settled other → other < lemma
  pub kept : (k : ℕ) (below : Node) (other : ℕ) (more : Kept) → slice_get board.nodes k ≡ Some below → IsAmong below.path one.node → k ≢ one.node → numbered board.kept other ≡ Some more → more.node ≡ k → other < lemma

-- the facts together
pub record IsBoard (setting : Setting) (board : Board) : Type 0 where
  pub root : (node : Node) × (slice_get board.nodes 0 ≡ Some node) × (node.path ≡ 0 ∷ []) × (node.lits ≡ []) × (node.barred ≡ [])
  pub used : (inst : Inst) → IsAmong (insts_in board.journal) inst → IsInstance setting.problem inst
  pub each : (number : ℕ) (node : Node) → slice_get board.nodes number ≡ Some node → IsSound setting board number node
  pub apart : AreApart board.nodes
  pub kept : (lemma : ℕ) (kept : Kept) → numbered board.kept lemma ≡ Some kept → IsKept board lemma kept
