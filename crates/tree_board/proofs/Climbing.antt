-- After each event no node is left that could be closed; so where no node is live, the root is closed.
use Rattle.std.proofs.Common.{◌≡◌, ◌≢◌, ℕ, zero, suc, ◌+◌, ◌<◌, ◌≤◌, Bool, true, false, true≢false, is_some, List, [], ◌∷◌, length, slice_get, slice_set, Option, Some, None, option_map, if◌then◌else◌, refl, sym, ap, ap₂, subst, ◌∙◌, ◌⊎◌, inl, inr, arith}
use Rattle.std.proofs.lemmas.Bool.{cases_eq, cases_lt}
use Rattle.mg_word.specs.Sets.{with_lit}
use Rattle.mg_word.specs.Facts.{IsProblem}
use Rattle.mg_word.specs.declared.lit.Lit.{Lit}
use Rattle.mg_word.specs.declared.form.Inst.{Inst}
use Rattle.mg_meaning.specs.Folding.{Pair, folded}
use Rattle.tree_board.specs.declared.event.Event.{Event}
use Rattle.case_split.specs.declared.child.Closure.{Closure}
use Rattle.tree_board.specs.Boards.{Board, opening, own_of, is_closed}
use Rattle.tree_board.specs.Children.{state_at_birth}
use Rattle.tree_board.specs.Closings.{cons_pair, pairs_at, due_state, due_own, due, closed_with, closed_by, closed_node, closed_at, climb}
use Rattle.tree_board.specs.Effects.{settled, born, moved, effect}
use Rattle.tree_board.specs.Events.{node_of}
use Rattle.tree_board.specs.Facts.{IsChildOf, IsPath, HasChildren, StateHolds, IsBoard}
use Rattle.tree_board.specs.Lawful.{IsLawful, IsReplay}
use Rattle.tree_board.specs.NodeStates.{NodeState, Open, Split, Rejected, Settled, Shut, Found, Covered, Heavy, is_live}
use Rattle.tree_board.specs.Nodes.{Node}
use Rattle.tree_board.specs.Settings.{Setting}
use Rattle.tree_board.proofs.Places.{same_some, within, whence, get_set_same, get_set_other, get_left, there_now}
use Rattle.tree_board.proofs.Settling.{none_some, settled_keeps}
use Rattle.tree_board.proofs.Below.{split_at}
use Rattle.tree_board.proofs.Moving.{moved_board, born_known}
use Rattle.tree_board.proofs.Closing.{closed_at_board}
use Rattle.tree_board.proofs.Replays.{effect_is, effect_board, opening_board, replay_keeps}

-- ---- a child's path is its number and its parent's path

pub child_path : (nodes : List Node) (first : ℕ) (above : List ℕ) (lits bars conclusions : List Lit) → HasChildren nodes first above lits bars conclusions → (number : ℕ) → first ≤ number → number < first + length conclusions → (node : Node) × (slice_get nodes number ≡ Some node) × (node.path ≡ number ∷ above)
child_path nodes first above lits bars [] children number from below = absurd (omega (arith, from, below))
child_path nodes first above lits bars (lit ∷ more) (child, children) number from below = elim (cases_eq number first) [
  | inl same ↦ (child.node, ap (slice_get nodes) same ∙ child.is, child.path ∙ ap (λ n. n ∷ above) (sym same))
  | inr apart ↦ child_path nodes (suc first) above lits (with_lit bars lit) more children number (omega (arith, from, apart)) (omega (arith, below))
]

-- a node's place below the node that has it as a child
pub parent_path : (setting : Setting) (board : Board) → IsBoard setting board → (number parent : ℕ) (node : Node) → slice_get board.nodes number ≡ Some node → (child : IsChildOf board.nodes number parent) → node.path ≡ number ∷ child.node.path
parent_path setting board facts number parent node at child =
    let own = split_at setting board facts.each parent child.node child.inst child.first child.is child.state in
    let (found, is, path) = child_path board.nodes child.first child.node.path child.node.lits child.node.barred child.inst.conclusions own.children number child.from child.below in
    ap (λ (n : Node). n.path) (same_some node found (sym at ∙ is)) ∙ path

-- the tail of a path is the parent's path
pub tail_is_parents : (setting : Setting) (board : Board) → IsBoard setting board → (number parent : ℕ) (above : List ℕ) (node : Node) → slice_get board.nodes number ≡ Some node → node.path ≡ number ∷ parent ∷ above → (up : Node) × (slice_get board.nodes parent ≡ Some up) × (up.path ≡ parent ∷ above)
tail_is_parents setting board facts number parent above node at path =
    let rooted = subst (IsPath board.nodes) path (facts.each number node at).rooted in
    let child = rooted.0 in
    let own = parent_path setting board facts number parent node at child in
    (child.node, child.is, tail_same number number child.node.path (parent ∷ above) (sym own ∙ path))
  where
    tail_same : (a b : ℕ) (xs ys : List ℕ) → a ∷ xs ≡ b ∷ ys → xs ≡ ys
    tail_same a b xs ys e = cc

-- ---- what can be closed

pairs_same : (old new : List Node) (first : ℕ) (conclusions : List Lit) → ((number : ℕ) → first ≤ number → number < first + length conclusions → own_of (slice_get new number) ≡ own_of (slice_get old number)) → pairs_at new first conclusions ≡ pairs_at old first conclusions
pairs_same old new first [] same = refl
pairs_same old new first (lit ∷ more) same = ap₂ cons_pair (same first (omega arith) (omega arith)) (pairs_same old new (suc first) more (λ number from below. same number (omega arith) (omega (arith, below))))

-- what is due at a node depends on its children alone
due_same : (old new : List Node) (node : Node) → ((inst : Inst) (first : ℕ) → node.state ≡ Split inst first → (number : ℕ) → first ≤ number → number < first + length inst.conclusions → own_of (slice_get new number) ≡ own_of (slice_get old number)) → due new node ≡ due old node
due_same old new node same = ap (λ one. by_own one node.own) (by node.state same)
  where
    by_own : Option Pair → Option Pair → Option Pair
    by_own fresh None = fresh
    by_own fresh (Some pair) = None

    by : (state : NodeState) → ((inst : Inst) (first : ℕ) → state ≡ Split inst first → (number : ℕ) → first ≤ number → number < first + length inst.conclusions → own_of (slice_get new number) ≡ own_of (slice_get old number)) → due_state new state ≡ due_state old state
    by (Split inst first) same = ap (option_map (folded inst)) (pairs_same old new first inst.conclusions (same inst first refl))
    by Open same = refl
    by (Rejected inst) same = refl
    by (Settled lemma) same = refl
    by (Shut closure) same = refl
    by Found same = refl
    by (Covered cover) same = refl
    by (Heavy inst) same = refl

abbrev pub NoneDue : Board → Type 0
NoneDue board = (k : ℕ) (node : Node) → slice_get board.nodes k ≡ Some node → due board.nodes node ≡ None

-- the first of a path
abbrev IsHead : List ℕ → ℕ → Type 0
IsHead [] k = ⊥
IsHead (number ∷ above) k = k ≡ number

-- the head of a path, or the next where the head is closed
abbrev IsFront : Board → List ℕ → ℕ → Type 0
IsFront board [] k = ⊥
IsFront board (number ∷ above) k = (k ≡ number) ⊎ ((is_closed board number ≡ true) × IsHead above k)

-- nothing is due but at the front
abbrev DueAtFront : Board → List ℕ → Type 0
DueAtFront board path = (k : ℕ) (node : Node) → slice_get board.nodes k ≡ Some node → (due board.nodes node ≡ None) ⊎ IsFront board path k

closed_none_due : (nodes : List Node) (node : Node) (pair : Pair) → node.own ≡ Some pair → due nodes node ≡ None
closed_none_due nodes node pair own = ap (due_own nodes node.state) own

closed_pair : (own : Option Pair) → is_some own ≡ true → (pair : Pair) × (own ≡ Some pair)
closed_pair None e = absurd (true≢false (sym e))
closed_pair (Some pair) e = (pair, refl)

-- a split state, or none
split_or_not : (state : NodeState) → ((inst : Inst) × (first : ℕ) × (state ≡ Split inst first)) ⊎ ((inst : Inst) (first : ℕ) → state ≡ Split inst first → ⊥)
split_or_not (Split inst first) = inl (inst, first, refl)
split_or_not Open = inr (λ inst first e. let bad : ⊥ = cc in bad)
split_or_not (Rejected other) = inr (λ inst first e. let bad : ⊥ = cc in bad)
split_or_not (Settled lemma) = inr (λ inst first e. let bad : ⊥ = cc in bad)
split_or_not (Shut closure) = inr (λ inst first e. let bad : ⊥ = cc in bad)
split_or_not Found = inr (λ inst first e. let bad : ⊥ = cc in bad)
split_or_not (Covered cover) = inr (λ inst first e. let bad : ⊥ = cc in bad)
split_or_not (Heavy other) = inr (λ inst first e. let bad : ⊥ = cc in bad)

within_or_not : (n a size : ℕ) → ((a ≤ n) × (n < a + size)) ⊎ (a ≤ n → n < a + size → ⊥)
within_or_not n a size = elim (cases_lt n a) [
  | inl less ↦ inr (λ from below. omega (arith, from, less))
  | inr more ↦ elim (cases_lt n (a + size)) [
    | inl small ↦ inl (more, small)
    | inr large ↦ inr (λ from below. omega (arith, below, large))
  ]
]

pub split_same : (i j : Inst) (a b : ℕ) → Split i a ≡ Split j b → (i ≡ j) × (a ≡ b)
split_same i j a b e = (cc, cc)

-- the number is none of the node's children
abbrev NoChild : Node → ℕ → Type 0
NoChild node number = (inst : Inst) (first : ℕ) → node.state ≡ Split inst first → (m : ℕ) → first ≤ m → m < first + length inst.conclusions → m ≢ number

-- it is a child of the node at that number, or none
parent_or_not : (nodes : List Node) (number k : ℕ) (node : Node) → slice_get nodes k ≡ Some node → ((child : IsChildOf nodes number k) × (child.node ≡ node)) ⊎ NoChild node number
parent_or_not nodes number k node at = elim (split_or_not node.state) [
  | inr never ↦ inr (λ inst first state. absurd (never inst first state))
  | inl (inst, first, state) ↦ elim (within_or_not number first (length inst.conclusions)) [
    | inl inside ↦ inl (record { node = node; is = at; inst = inst; first = first; state = state; from = inside.0; below = inside.1 }, refl)
    | inr outside ↦ inr (λ other start state' m from below same.
        let both = split_same inst other first start (sym state ∙ state') in
        let sizes : length inst.conclusions ≡ length other.conclusions = ap (λ (x : Inst). length x.conclusions) both.0 in
        outside (omega (arith, both.1, from, same)) (omega (arith, both.1, sizes, below, same)))
  ]
]

tails : (a b : ℕ) (xs ys : List ℕ) → a ∷ xs ≡ b ∷ ys → xs ≡ ys
tails a b xs ys e = cc

head_of : (up path : List ℕ) (top : ℕ) (rest : List ℕ) → up ≡ path → path ≡ top ∷ rest → IsHead up top
head_of up path top rest one two = subst (λ all. IsHead all top) (sym (one ∙ two)) refl

-- the node that has a child is the head of what is above the child
parent_is_head : (setting : Setting) (board : Board) → IsBoard setting board → (number k : ℕ) (above : List ℕ) (node one : Node) → slice_get board.nodes number ≡ Some node → node.path ≡ number ∷ above → slice_get board.nodes k ≡ Some one → (child : IsChildOf board.nodes number k) → child.node ≡ one → IsHead above k
parent_is_head setting board facts number k above node one at path at_k child same =
    let own = parent_path setting board facts number k node at child in
    let up : above ≡ one.path = tails number number above one.path (sym path ∙ (own ∙ ap (λ (n : Node). number ∷ n.path) same)) in
    head_of above one.path k (facts.each k one at_k).above up (facts.each k one at_k).path

-- setting a node's lemma changes nothing at a node that does not have it as a child
set_due_same : (nodes : List Node) (number : ℕ) (after one : Node) → NoChild one number → due (slice_set nodes number after) one ≡ due nodes one
set_due_same nodes number after one none = due_same nodes (slice_set nodes number after) one (λ inst first state m from below. ap own_of (get_set_other nodes number m after (none inst first state m from below)))

-- one step of the climb: what is left due, where the node is closed and where it is not
record Step (after : Board) (number : ℕ) (above : List ℕ) : Type 0 where
  pub closed : is_closed after number ≡ true → (k : ℕ) (node : Node) → slice_get after.nodes k ≡ Some node → (due after.nodes node ≡ None) ⊎ IsHead above k
  pub unclosed : is_closed after number ≡ false → NoneDue after

module _ (setting : Setting) (board : Board) (facts : IsBoard setting board) (number : ℕ) (above : List ℕ) (node : Node) (at : slice_get board.nodes number ≡ Some node) (path : node.path ≡ number ∷ above) (front : DueAtFront board (number ∷ above)) where
  -- the board as it is, where nothing is due at the node
  as_is : due board.nodes node ≡ None → Step board number above
  as_is none = record {
    closed = λ closed k one is. elim (front k one is) [
      | inl fine ↦ inl fine
      | inr (inl same) ↦ inl (ap (due board.nodes) (same_some one node (sym is ∙ (ap (slice_get board.nodes) same ∙ at))) ∙ none)
      | inr (inr (was, head)) ↦ inr head
    ];
    unclosed = λ not_closed k one is. elim (front k one is) [
      | inl fine ↦ fine
      | inr (inl same) ↦ ap (due board.nodes) (same_some one node (sym is ∙ (ap (slice_get board.nodes) same ∙ at))) ∙ none
      | inr (inr (closed, head)) ↦ absurd (true≢false (sym closed ∙ not_closed))
    ];
  }

  -- another node, where this one is closed with a lemma
  other : (pair : Pair) (k : ℕ) (one : Node) → k ≢ number → slice_get board.nodes k ≡ Some one → (due (slice_set board.nodes number (record node { own = Some pair })) one ≡ None) ⊎ IsHead above k
  other pair k one apart old = elim (parent_or_not board.nodes number k one old) [
    | inl (child, same) ↦ inr (parent_is_head setting board facts number k above node one at path old child same)
    | inr none ↦ elim (front k one old) [
      | inl fine ↦ inl (set_due_same board.nodes number (record node { own = Some pair }) one none ∙ fine)
      | inr (inl same) ↦ absurd (apart same)
      | inr (inr (closed, head)) ↦ inr head
    ]
  ]

  with_pair : (pair : Pair) → Step (closed_with setting board number node pair) number above
  with_pair pair =
      let after : Node = record node { own = Some pair } in
      let there : slice_get (slice_set board.nodes number after) number ≡ Some after = get_set_same board.nodes number node after at in
      record {
        closed = λ closed k one at_k. elim (cases_eq k number) [
          | inl same ↦
              let own : one ≡ after = same_some one after (sym at_k ∙ (ap (slice_get (slice_set board.nodes number after)) same ∙ there)) in
              inl (closed_none_due (slice_set board.nodes number after) one pair (ap (λ (n : Node). n.own) own))
          | inr apart ↦ other pair k one apart (sym (get_set_other board.nodes number k after apart) ∙ at_k)
        ];
        unclosed = λ not_closed. absurd (true≢false (sym (ap (λ (one : Option Node). is_some (own_of one)) there) ∙ not_closed));
      }

  step : Step (closed_at setting board number) number above
  unfolding closed_at
  step = subst (λ one. Step (closed_node setting board number one) number above) (sym at) (by (due board.nodes node) refl)
    where
      by : (pair : Option Pair) → due board.nodes node ≡ pair → Step (closed_by setting board number node pair) number above
      by None none = as_is none
      by (Some pair) is = with_pair pair

-- no path, or that of a node
abbrev IsPathOf : Board → List ℕ → Type 0
IsPathOf board [] = Unit {0}
IsPathOf board (number ∷ above) = (node : Node) × (slice_get board.nodes number ≡ Some node) × (node.path ≡ number ∷ above)

path_above : (setting : Setting) (board : Board) → IsBoard setting board → (number : ℕ) (above : List ℕ) → IsPathOf board (number ∷ above) → IsPathOf board above
path_above setting board facts number [] is = tt
path_above setting board facts number (parent ∷ above) (node, at, path) = tail_is_parents setting board facts number parent above node at path

path_of_closed : (setting : Setting) (board : Board) (number : ℕ) → (path : List ℕ) → IsPathOf board path → IsPathOf (closed_at setting board number) path
unfolding closed_at
path_of_closed setting board number [] is = tt
path_of_closed setting board number (one ∷ above) (node, at, path) = by (slice_get board.nodes number) refl
  where
    close : (own : Node) → slice_get board.nodes number ≡ Some own → (pair : Option Pair) → IsPathOf (closed_by setting board number own pair) (one ∷ above)
    close own own_at None = (node, at, path)
    close own own_at (Some pair) = elim (cases_eq one number) [
      | inl same ↦
          let after : Node = record own { own = Some pair } in
          let nodes : own ≡ node = same_some own node (sym own_at ∙ (ap (slice_get board.nodes) (sym same) ∙ at)) in
          (after, ap (slice_get (slice_set board.nodes number after)) same ∙ get_set_same board.nodes number own after own_at, ap (λ (n : Node). n.path) nodes ∙ path)
      | inr apart ↦ (node, get_set_other board.nodes number one (record own { own = Some pair }) apart ∙ at, path)
    ]

    by : (own : Option Node) → slice_get board.nodes number ≡ own → IsPathOf (closed_node setting board number own) (one ∷ above)
    by None own_at = (node, at, path)
    by (Some own) own_at = close own own_at (due board.nodes own)

head_front : (board : Board) (above : List ℕ) (k : ℕ) → IsHead above k → IsFront board above k
head_front board [] k head = absurd head
head_front board (number ∷ above) k head = inl head

-- after the climb nothing is due
climb_none_due : (setting : Setting) (path : List ℕ) (board : Board) → IsBoard setting board → IsPathOf board path → DueAtFront board path → NoneDue (climb setting path board)
unfolding climb
climb_none_due setting [] board facts is front = λ k node at. elim (front k node at) [
  | inl fine ↦ fine
  | inr bad ↦ absurd bad
]
climb_none_due setting (number ∷ above) board facts (node, at, path) front =
    let stepped = step setting board facts number above node at path front in
    let next = closed_at_board setting board number facts in
    let up = path_above setting (closed_at setting board number) next number above (path_of_closed setting board number (number ∷ above) (node, at, path)) in
    by (is_closed (closed_at setting board number) number) refl stepped
    (λ closed. climb_none_due setting above (closed_at setting board number) next up (λ k one at_k. elim (stepped.closed closed k one at_k) [
      | inl fine ↦ inl fine
      | inr head ↦ inr (head_front (closed_at setting board number) above k head)
    ]))
  where
    by : (closed : Bool) → is_closed (closed_at setting board number) number ≡ closed → Step (closed_at setting board number) number above → (is_closed (closed_at setting board number) number ≡ true → NoneDue (climb setting above (closed_at setting board number)))
        → NoneDue (if closed then climb setting above (closed_at setting board number) else closed_at setting board number)
    by true is stepped go = go is
    by false is stepped go = stepped.unclosed is

-- ---- an event, from a board where nothing is due

due_open_none : (nodes : List Node) (node : Node) → (own : Option Pair) → node.own ≡ own → due_state nodes node.state ≡ None → due nodes node ≡ None
due_open_none nodes node None is none = ap (due_own nodes node.state) is ∙ none
due_open_none nodes node (Some pair) is none = ap (due_own nodes node.state) is

-- what is born can't be closed
born_not_due : (nodes : List Node) (node : Node) (closure : Option Closure) → node.state ≡ state_at_birth closure → due nodes node ≡ None
born_not_due nodes node closure is = due_open_none nodes node node.own refl (ap (due_state nodes) is ∙ by closure)
  where
    by : (one : Option Closure) → due_state nodes (state_at_birth one) ≡ None
    by None = refl
    by (Some closure) = refl

moved_front : (setting : Setting) (board : Board) → IsBoard setting board → NoneDue board → (event : Event) (lawful : IsLawful setting board event) (above : List ℕ) → lawful.node.path ≡ node_of event ∷ above → IsBoard setting (moved board lawful.node event) → DueAtFront (moved board lawful.node event) (node_of event ∷ above)
moved_front setting board facts none event lawful above path next k one at = elim (whence board.nodes (born board lawful.node event) (node_of event) lawful.node (settled board lawful.node event) k one lawful.is at) [
  | inl (same, new) ↦ inr (inl same)
  | inr (inl (apart, old)) ↦ elim (parent_or_not board.nodes (node_of event) k one old) [
    | inr no_child ↦ inl (unchanged old no_child ∙ none k one old)
    | inl (child, same) ↦ elim (two_closed (is_closed (moved board lawful.node event) (node_of event))) [
      | inl closed ↦ inr (inr (closed, parent_is_head setting board facts (node_of event) k above lawful.node one lawful.is path old child same))
      | inr not_closed ↦ inl (still old not_closed ∙ none k one old)
    ]
  ]
  | inr (inr (j, place, there)) ↦ let known = born_known board lawful.node event j one there in inl (born_not_due (moved board lawful.node event).nodes one known.state.0 known.state.1)
]
  where
    two_closed : (b : Bool) → (b ≡ true) ⊎ (b ≡ false)
    two_closed true = inl refl
    two_closed false = inr refl

    -- an old node's children are old
    child_old : slice_get board.nodes k ≡ Some one → (inst : Inst) (first : ℕ) → one.state ≡ Split inst first → (m : ℕ) → first ≤ m → m < first + length inst.conclusions → (x : Node) × (slice_get board.nodes m ≡ Some x)
    child_old old inst first state m from below =
        let own = split_at setting board facts.each k one inst first old state in
        let found = child_path board.nodes first one.path one.lits one.barred inst.conclusions own.children m from below in
        (found.0, found.1)

    same_at : (m : ℕ) (x : Node) → slice_get board.nodes m ≡ Some x → m ≢ node_of event → own_of (slice_get (moved board lawful.node event).nodes m) ≡ own_of (slice_get board.nodes m)
    same_at m x at_m apart = ap own_of (get_left (slice_set board.nodes (node_of event) (settled board lawful.node event)) (born board lawful.node event) m x (get_set_other board.nodes (node_of event) m (settled board lawful.node event) apart ∙ at_m) ∙ sym at_m)

    unchanged : slice_get board.nodes k ≡ Some one → NoChild one (node_of event) → due (moved board lawful.node event).nodes one ≡ due board.nodes one
    unchanged old no_child = due_same board.nodes (moved board lawful.node event).nodes one (λ inst first state m from below.
        let x = child_old old inst first state m from below in
        same_at m x.0 x.1 (no_child inst first state m from below))

    -- where the event's node is not closed, it had no lemma before and has none now
    still : slice_get board.nodes k ≡ Some one → is_closed (moved board lawful.node event) (node_of event) ≡ false → due (moved board lawful.node event).nodes one ≡ due board.nodes one
    still old not_closed = due_same board.nodes (moved board lawful.node event).nodes one (λ inst first state m from below.
        let x = child_old old inst first state m from below in
        elim (cases_eq m (node_of event)) [
          | inr apart ↦ same_at m x.0 x.1 apart
          | inl same ↦
              let unclosed : lawful.node.own ≡ None = subst (StateHolds setting board (node_of event) lawful.node) lawful.opened (facts.each (node_of event) lawful.node lawful.is).state in
              none_now (own_of (slice_get (moved board lawful.node event).nodes m)) (ap (λ n. is_some (own_of (slice_get (moved board lawful.node event).nodes n))) same ∙ not_closed) ∙ sym (ap own_of (ap (slice_get board.nodes) same ∙ lawful.is) ∙ unclosed)
        ])
      where
        none_now : (own : Option Pair) → is_some own ≡ false → own ≡ None
        none_now None e = refl
        none_now (Some pair) e = absurd (true≢false e)

pub effect_none_due : (setting : Setting) (board : Board) → IsProblem setting.problem → IsBoard setting board → NoneDue board → (event : Event) → IsLawful setting board event → NoneDue (effect setting board event)
effect_none_due setting board real facts none event lawful =
    let next = moved_board setting board real facts lawful.node event lawful.is lawful.opened lawful.due in
    let one = facts.each (node_of event) lawful.node lawful.is in
    let keeps = settled_keeps board lawful.node event in
    let now : slice_get (moved board lawful.node event).nodes (node_of event) ≡ Some (settled board lawful.node event) = there_now board.nodes (born board lawful.node event) (node_of event) lawful.node (settled board lawful.node event) lawful.is in
    subst NoneDue (sym (effect_is setting board event lawful.node lawful.is))
    (subst (λ path. NoneDue (climb setting path (moved board lawful.node event))) (sym one.path)
    (climb_none_due setting (node_of event ∷ one.above) (moved board lawful.node event) next (settled board lawful.node event, now, keeps.path ∙ one.path)
    (moved_front setting board facts none event lawful one.above one.path next)))

opening_none_due : NoneDue opening
opening_none_due zero node at = ap (due opening.nodes) (sym (same_some (record { path = 0 ∷ []; lits = []; barred = []; state = Open; own = None }) node at))
opening_none_due (suc k) node at = absurd (let bad : ⊥ = cc in bad)

pub record IsClimbed (setting : Setting) (board : Board) : Type 0 where
  pub facts : IsBoard setting board
  pub climbed : NoneDue board

pub replay_climbed : (setting : Setting) (board : Board) → IsProblem setting.problem → IsReplay setting board → IsClimbed setting board
replay_climbed setting board real replay = subst (IsClimbed setting) replay.is
    (replay_keeps setting (IsClimbed setting) (λ one event holds lawful. record { facts = effect_board setting one real holds.facts event lawful; climbed = effect_none_due setting one real holds.facts holds.climbed event lawful })
    replay.events opening (record { facts = opening_board setting; climbed = opening_none_due }) replay.lawful)

-- ---- where no node is live, all are closed

all_pairs : (nodes : List Node) (first : ℕ) (conclusions : List Lit) → ((number : ℕ) → first ≤ number → number < first + length conclusions → (pair : Pair) × (own_of (slice_get nodes number) ≡ Some pair)) → (pairs : List Pair) × (pairs_at nodes first conclusions ≡ Some pairs)
all_pairs nodes first [] each = ([], refl)
all_pairs nodes first (lit ∷ more) each =
    let (pair, is) = each first (omega arith) (omega arith) in
    let (pairs, are) = all_pairs nodes (suc first) more (λ number from below. each number (omega arith) (omega (arith, below))) in
    (pair ∷ pairs, ap₂ cons_pair is are)

pub dead_is_closed : (setting : Setting) (board : Board) → IsProblem setting.problem → IsReplay setting board → ((number : ℕ) (node : Node) → slice_get board.nodes number ≡ Some node → is_live node.state ≡ false) → is_closed board 0 ≡ true
dead_is_closed setting board real replay dead =
    let climbed = replay_climbed setting board real replay in
    let (root, at, path, lits, barred) = climbed.facts.root in
    let (pair, own) = all (length board.nodes) climbed 0 root (omega arith) at in
    ap (λ (one : Option Node). is_some (own_of one)) at ∙ ap is_some own
  where
    by : (climbed : IsClimbed setting board) (number : ℕ) (node : Node) → slice_get board.nodes number ≡ Some node → (state : NodeState) → node.state ≡ state → StateHolds setting board number node state → is_live state ≡ false
        → ((k : ℕ) (later : Node) → number < k → slice_get board.nodes k ≡ Some later → (pair : Pair) × (later.own ≡ Some pair)) → (pair : Pair) × (node.own ≡ Some pair)
    by climbed number node at Open is holds live go = absurd (true≢false live)
    by climbed number node at Found is holds live go = absurd (true≢false live)
    by climbed number node at (Covered cover) is holds live go = absurd (true≢false live)
    by climbed number node at (Heavy inst) is holds live go = absurd (true≢false live)
    by climbed number node at (Rejected inst) is holds live go = (_, holds.3)
    by climbed number node at (Settled lemma) is holds live go = (holds.0, holds.2)
    by climbed number node at (Shut closure) is holds live go = (_, holds.1)
    by climbed number node at (Split inst first) is holds live go =
        let (pairs, are) = all_pairs board.nodes first inst.conclusions (λ k from below.
        let (found, found_at, path) = child_path board.nodes first node.path node.lits node.barred inst.conclusions holds.children k from below in
        let (pair, own) = go k found (omega (arith, from, holds.later)) found_at in
        (pair, ap own_of found_at ∙ own)) in
        closed node.own refl pairs are
      where
        closed : (own : Option Pair) → node.own ≡ own → (pairs : List Pair) → pairs_at board.nodes first inst.conclusions ≡ Some pairs → (pair : Pair) × (node.own ≡ Some pair)
        closed (Some pair) own pairs are = (pair, own)
        closed None own pairs are =
            let due_here : due board.nodes node ≡ Some (folded inst pairs) = ap (due_own board.nodes node.state) own ∙ (ap (due_state board.nodes) is ∙ ap (option_map (folded inst)) are) in
            absurd (none_some (folded inst pairs) (sym (climbed.climbed number node at) ∙ due_here))

    all : (fuel : ℕ) (climbed : IsClimbed setting board) (number : ℕ) (node : Node) → length board.nodes ≤ number + fuel → slice_get board.nodes number ≡ Some node → (pair : Pair) × (node.own ≡ Some pair)
    all zero climbed number node far at = absurd (omega (arith, far, within board.nodes number node at))
    all (suc fuel) climbed number node far at = by climbed number node at node.state refl (climbed.facts.each number node at).state (dead number node at) (λ k later behind at_k. all fuel climbed k later (omega (arith, far, behind)) at_k)
