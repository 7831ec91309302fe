-- The open nodes in tree order: the first is the head, and an event puts the open children in the place of its node.
use Rattle.std.proofs.Common.{◌≡◌, ◌≢◌, ℕ, zero, suc, ◌+◌, ◌<◌, ◌≤◌, Bool, true, false, nat_eq, List, [], ◌∷◌, ◌++◌, length, slice_get, slice_set, Option, Some, None, refl, sym, ap, ap₂, subst, ◌∙◌, inl, inr, arith, append_assoc}
use Rattle.std.proofs.lemmas.Bool.{cases_eq, eq-eqb, eqb-true}
use Rattle.mg_word.specs.Sets.{with_lit}
use Rattle.mg_word.specs.Facts.{IsProblem}
use Rattle.mg_word.specs.declared.lit.Lit.{Lit}
use Rattle.mg_word.specs.declared.form.Inst.{Inst}
use Rattle.mg_word.proofs.Members.{never_true}
use Rattle.mg_meaning.specs.Folding.{Pair}
use Rattle.tree_board.specs.declared.event.Event.{Event}
use Rattle.tree_board.specs.declared.event.Event.TheVariants.{Extend, Reject, ByLemma, Saturated, Covered as CoveredBy, Heavy as TooHeavy}
use Rattle.case_split.specs.Splitting.{closure_of}
use Rattle.case_split.specs.declared.child.Closure.{Closure}
use Rattle.tree_board.specs.Boards.{Board}
use Rattle.tree_board.specs.Children.{state_at_birth, children_of}
use Rattle.tree_board.proofs.Births.{child}
use Rattle.tree_board.specs.Closings.{due, closed_by, closed_node, closed_at}
use Rattle.tree_board.specs.Effects.{settled, born, moved, effect}
use Rattle.tree_board.specs.Events.{node_of}
use Rattle.tree_board.specs.Facts.{IsBoard}
use Rattle.tree_board.specs.FirstOpen.{first_of, first_among, first_by, first_at, first_open_from}
use Rattle.tree_board.specs.Lawful.{IsLawful, IsReplay}
use Rattle.tree_board.specs.NodeStates.{NodeState, Open, Split, Rejected, Settled, Shut, Found, Covered, Heavy}
use Rattle.tree_board.specs.Nodes.{Node}
use Rattle.tree_board.specs.OpenLists.{opens_among, opens_by, opens_at, opens_from, head_of, replaced_by, replaced, open_by, open_numbers, ListsOpen}
use Rattle.tree_board.specs.Settings.{Setting}
use Rattle.tree_board.proofs.Places.{within, get_set_same, get_set_other, get_right, still, there_now, length-slice_set, same_some}
use Rattle.tree_board.proofs.Below.{split_at, born_parts}
use Rattle.tree_board.proofs.Climbing.{child_path}
use Rattle.tree_board.proofs.Replays.{replay_board, climb_keeps, effect_is, effect_board}

-- ---- the head

head-append : (xs ys : List ℕ) → head_of (xs ++ ys) ≡ first_of (head_of xs) (head_of ys)
head-append [] ys = refl
head-append (x ∷ xs) ys = refl

head_among : (go : ℕ → Option ℕ) (list : ℕ → List ℕ) → ((n : ℕ) → go n ≡ head_of (list n)) → (first : ℕ) (conclusions : List Lit) → first_among go first conclusions ≡ head_of (opens_among list first conclusions)
head_among go list same first [] = refl
head_among go list same first (lit ∷ more) = ap₂ first_of (same first) (head_among go list same (suc first) more) ∙ sym (head-append (list first) (opens_among list (suc first) more))

head_is : (nodes : List Node) (fuel number : ℕ) → first_open_from nodes fuel number ≡ head_of (opens_from nodes fuel number)
unfolding first_open_from opens_from
head_is nodes zero number = refl
head_is nodes (suc fuel) number = by_node (slice_get nodes number) (λ n. head_is nodes fuel n)
  where
    by : (state : NodeState) → ((n : ℕ) → first_open_from nodes fuel n ≡ head_of (opens_from nodes fuel n)) → first_by (λ n. first_open_from nodes fuel n) number state ≡ head_of (opens_by (λ n. opens_from nodes fuel n) number state)
    by Open go = refl
    by (Split inst first) go = head_among (λ n. first_open_from nodes fuel n) (λ n. opens_from nodes fuel n) go first inst.conclusions
    by (Rejected inst) go = refl
    by (Settled lemma) go = refl
    by (Shut closure) go = refl
    by Found go = refl
    by (Covered cover) go = refl
    by (Heavy inst) go = refl

    by_node : (one : Option Node) → ((n : ℕ) → first_open_from nodes fuel n ≡ head_of (opens_from nodes fuel n)) → first_at (λ n. first_open_from nodes fuel n) number one ≡ head_of (opens_at (λ n. opens_from nodes fuel n) number one)
    by_node None go = refl
    by_node (Some node) go = by node.state go

-- ---- fuel and replacement

same_opens : (go other : ℕ → List ℕ) (first : ℕ) (conclusions : List Lit) → ((n : ℕ) → first ≤ n → n < first + length conclusions → go n ≡ other n) → opens_among go first conclusions ≡ opens_among other first conclusions
same_opens go other first [] same = refl
same_opens go other first (lit ∷ more) same = ap₂ (λ xs ys. xs ++ ys) (same first (omega arith) (omega arith)) (same_opens go other (suc first) more (λ n from below. same n (omega arith) (omega (arith, below))))

replaced-append : (number : ℕ) (kids xs ys : List ℕ) → replaced number kids (xs ++ ys) ≡ replaced number kids xs ++ replaced number kids ys
replaced-append number kids [] ys = refl
replaced-append number kids (x ∷ xs) ys = by (nat_eq x number) (replaced-append number kids xs ys)
  where
    by : (test : Bool) → replaced number kids (xs ++ ys) ≡ replaced number kids xs ++ replaced number kids ys → replaced_by test x kids (replaced number kids (xs ++ ys)) ≡ replaced_by test x kids (replaced number kids xs) ++ replaced number kids ys
    by true go = ap (λ rest. kids ++ rest) go ∙ sym (append_assoc kids (replaced number kids xs) (replaced number kids ys))
    by false go = ap (λ rest. x ∷ rest) go

replaced_among : (number : ℕ) (kids : List ℕ) (go other : ℕ → List ℕ) (first : ℕ) (conclusions : List Lit) → ((n : ℕ) → first ≤ n → n < first + length conclusions → go n ≡ replaced number kids (other n)) → opens_among go first conclusions ≡ replaced number kids (opens_among other first conclusions)
replaced_among number kids go other first [] same = refl
replaced_among number kids go other first (lit ∷ more) same =
    ap₂ (λ xs ys. xs ++ ys) (same first (omega arith) (omega arith)) (replaced_among number kids go other (suc first) more (λ n from below. same n (omega arith) (omega (arith, below))))
    ∙ sym (replaced-append number kids (other first) (opens_among other (suc first) more))

opens_step : (nodes : List Node) (fuel number : ℕ) (node : Node) → slice_get nodes number ≡ Some node → opens_from nodes (suc fuel) number ≡ opens_by (λ n. opens_from nodes fuel n) number node.state
unfolding opens_from
opens_step nodes fuel number node at = ap (opens_at (λ n. opens_from nodes fuel n) number) at

-- more fuel changes nothing
pub enough : (setting : Setting) (board : Board) → IsBoard setting board → (f g number : ℕ) → length board.nodes ≤ number + f → length board.nodes ≤ number + g → (node : Node) → slice_get board.nodes number ≡ Some node → opens_from board.nodes f number ≡ opens_from board.nodes g number
enough setting board facts zero g number far further node at = absurd (let small = within board.nodes number node at in omega (arith, far, small))
enough setting board facts (suc f) zero number far further node at = absurd (let small = within board.nodes number node at in omega (arith, further, small))
enough setting board facts (suc f) (suc g) number far further node at =
    opens_step board.nodes f number node at
    ∙ (by node.state refl (λ child later one one_at. enough setting board facts f g child (omega (arith, far, later)) (omega (arith, further, later)) one one_at) ∙ sym (opens_step board.nodes g number node at))
  where
    by : (state : NodeState) → node.state ≡ state → ((child : ℕ) → number < child → (one : Node) → slice_get board.nodes child ≡ Some one → opens_from board.nodes f child ≡ opens_from board.nodes g child)
        → opens_by (λ n. opens_from board.nodes f n) number state ≡ opens_by (λ n. opens_from board.nodes g n) number state
    by (Split inst first) is go =
        let own = split_at setting board facts.each number node inst first at is in
        same_opens (λ n. opens_from board.nodes f n) (λ n. opens_from board.nodes g n) first inst.conclusions (λ n from below.
        let (one, one_at, path) = child_path board.nodes first node.path node.lits node.barred inst.conclusions own.children n from below in
        go n (omega (arith, own.later, from)) one one_at)
    by Open is go = refl
    by (Rejected inst) is go = refl
    by (Settled lemma) is go = refl
    by (Shut closure) is go = refl
    by Found is go = refl
    by (Covered cover) is go = refl
    by (Heavy inst) is go = refl

-- ---- states stay where a node is closed

record HasState (nodes : List Node) (number : ℕ) (state : NodeState) : Type 0 where
  pub node : Node
  pub is : slice_get nodes number ≡ Some node
  pub same : node.state ≡ state

abbrev SameStates : List Node → List Node → Type 0
SameStates old new = (number : ℕ) (node : Node) → slice_get old number ≡ Some node → HasState new number node.state

closed_states : (setting : Setting) (old : List Node) (number : ℕ) (board : Board) → SameStates old board.nodes → SameStates old (closed_at setting board number).nodes
unfolding closed_at
closed_states setting old number board same = by (slice_get board.nodes number) refl
  where
    close : (node : Node) → slice_get board.nodes number ≡ Some node → (pair : Option Pair) → SameStates old (closed_by setting board number node pair).nodes
    close node at None = same
    close node at (Some pair) = λ k one is.
        let before = same k one is in
        let after : Node = record node { own = Some pair } in
        elim (cases_eq k number) [
          | inl here ↦ record {
            node = after;
            is = ap (slice_get (slice_set board.nodes number after)) here ∙ get_set_same board.nodes number node after at;
            same = ap (λ (n : Node). n.state) (same_some node before.node (sym at ∙ (ap (slice_get board.nodes) (sym here) ∙ before.is))) ∙ before.same;
          }
          | inr apart ↦ record { node = before.node; is = get_set_other board.nodes number k after apart ∙ before.is; same = before.same }
        ]

    by : (node : Option Node) → slice_get board.nodes number ≡ node → SameStates old (closed_node setting board number node).nodes
    by None at = same
    by (Some node) at = close node at (due board.nodes node)

effect_states : (setting : Setting) (board : Board) (event : Event) (lawful : IsLawful setting board event) → SameStates (moved board lawful.node event).nodes (effect setting board event).nodes
effect_states setting board event lawful =
    subst (λ (one : Board). SameStates (moved board lawful.node event).nodes one.nodes) (sym (effect_is setting board event lawful.node lawful.is))
    (climb_keeps setting (λ one. SameStates (moved board lawful.node event).nodes one.nodes) (λ number one same. closed_states setting (moved board lawful.node event).nodes number one same) lawful.node.path (moved board lawful.node event)
    (λ number node is. record { node = node; is = is; same = refl }))

-- ---- an event

-- the open children, one after another
kids_listed : (go : ℕ → List ℕ) (path : List ℕ) (lits barred conclusions : List Lit) (first : ℕ) → ((j : ℕ) (x : Node) → slice_get (children_of first path lits barred conclusions) j ≡ Some x → go (first + j) ≡ open_by x.state (first + j) []) → opens_among go first conclusions ≡ open_numbers first (children_of first path lits barred conclusions)
kids_listed go path lits barred [] first each = refl
kids_listed go path lits barred (lit ∷ more) first each =
    let here : go first ≡ open_by (state_at_birth (closure_of lits barred lit)) first [] = subst (λ n. go n ≡ open_by (state_at_birth (closure_of lits barred lit)) n []) (let e : first + 0 ≡ first = omega arith in e) (each 0 (child first path lits barred lit) refl) in
    let rest = kids_listed go path lits (with_lit barred lit) more (suc first) (λ j x is. subst (λ n. go n ≡ open_by x.state n []) (let e : first + suc j ≡ suc first + j = omega arith in e) (each (suc j) x is)) in
    ap₂ (λ xs ys. xs ++ ys) here rest ∙ by (closure_of lits barred lit)
  where
    by : (closure : Option Closure) → open_by (state_at_birth closure) first [] ++ open_numbers (suc first) (children_of (suc first) path lits (with_lit barred lit) more) ≡ open_by (state_at_birth closure) first (open_numbers (suc first) (children_of (suc first) path lits (with_lit barred lit) more))
    by None = refl
    by (Some closure) = refl

none_after : (xs : List ℕ) → xs ++ [] ≡ xs
none_after [] = refl
none_after (x ∷ xs) = ap (λ rest. x ∷ rest) (none_after xs)

module _ (setting : Setting) (board : Board) (facts : IsBoard setting board) (event : Event) (lawful : IsLawful setting board event) where
  abbrev new : List Node
  new = (effect setting board event).nodes

  abbrev kids : List ℕ
  kids = open_numbers (length board.nodes) (born board lawful.node event)

  longer : length board.nodes ≤ length new
  longer = by (length board.nodes) refl
    where
      by : (size : ℕ) → length board.nodes ≡ size → length board.nodes ≤ length new
      by zero e = omega (arith, e)
      by (suc last) e =
          let there = get_last board.nodes last (omega (arith, e)) in
          let states = effect_states setting board event lawful in
          let moved_there : (x : Node) × (slice_get (moved board lawful.node event).nodes last ≡ Some x) = elim (cases_eq last (node_of event)) [
            | inl same ↦ (settled board lawful.node event, ap (slice_get (moved board lawful.node event).nodes) same ∙ there_now board.nodes (born board lawful.node event) (node_of event) lawful.node (settled board lawful.node event) lawful.is)
            | inr apart ↦ (there.0, still board.nodes (born board lawful.node event) (node_of event) last (settled board lawful.node event) there.0 apart there.1)
          ] in
          let found = states last moved_there.0 moved_there.1 in
          let small = within new last found.node found.is in
          omega (arith, e, small)
        where
          get_last : (nodes : List Node) (k : ℕ) → k < length nodes → (x : Node) × (slice_get nodes k ≡ Some x)
          get_last [] k inside = absurd (omega arith)
          get_last (first ∷ nodes) zero inside = (first, refl)
          get_last (first ∷ nodes) (suc k) inside = get_last nodes k (omega arith)

  -- what is born stands open or not as it was born
  born_listed : (fuel j : ℕ) (x : Node) → slice_get (born board lawful.node event) j ≡ Some x → ((closure : Option Closure) × (x.state ≡ state_at_birth closure)) → opens_from new (suc fuel) (length board.nodes + j) ≡ open_by x.state (length board.nodes + j) []
  born_listed fuel j x is (closure, state) =
      let place : slice_get (moved board lawful.node event).nodes (length board.nodes + j) ≡ Some x = get_right (slice_set board.nodes (node_of event) (settled board lawful.node event)) (born board lawful.node event) (length board.nodes + j) j (ap (λ size. size + j) (sym (length-slice_set board.nodes (node_of event) (settled board lawful.node event)))) ∙ is in
      let found = effect_states setting board event lawful (length board.nodes + j) x place in
      opens_step new fuel (length board.nodes + j) found.node found.is ∙ (ap (opens_by (λ n. opens_from new fuel n) (length board.nodes + j)) (found.same ∙ state) ∙ (by closure ∙ ap (λ s. open_by s (length board.nodes + j) []) (sym state)))
    where
      by : (one : Option Closure) → opens_by (λ n. opens_from new fuel n) (length board.nodes + j) (state_at_birth one) ≡ open_by (state_at_birth one) (length board.nodes + j) []
      by None = refl
      by (Some closure) = refl

  -- at the event's own node
  own_listed : (fuel : ℕ) → opens_by (λ n. opens_from new (suc fuel) n) (node_of event) (settled board lawful.node event).state ≡ kids
  own_listed fuel = by event refl
    where
      by : (one : Event) → event ≡ one → opens_by (λ n. opens_from new (suc fuel) n) (node_of one) (settled board lawful.node one).state ≡ open_numbers (length board.nodes) (born board lawful.node one)
      by (Extend number inst) e = kids_listed (λ n. opens_from new (suc fuel) n) lawful.node.path lawful.node.lits lawful.node.barred inst.conclusions (length board.nodes)
          (λ j x is. born_listed fuel j x (ap (λ ev. slice_get (born board lawful.node ev) j) e ∙ is) (born_so inst j x is))
        where
          born_so : (inst : Inst) (j : ℕ) (x : Node) → slice_get (children_of (length board.nodes) lawful.node.path lawful.node.lits lawful.node.barred inst.conclusions) j ≡ Some x → (closure : Option Closure) × (x.state ≡ state_at_birth closure)
          born_so inst j x is = (born_parts (length board.nodes) lawful.node.path lawful.node.lits lawful.node.barred inst.conclusions j x is).state
      by (Reject number inst) e = refl
      by (ByLemma number which) e = refl
      by (Saturated number) e = refl
      by (CoveredBy number cover) e = refl
      by (TooHeavy number inst) e = refl

  listed : (fuel number : ℕ) (node : Node) → slice_get board.nodes number ≡ Some node → length new ≤ number + fuel → opens_from new (suc fuel) number ≡ replaced (node_of event) kids (opens_from board.nodes (suc fuel) number)
  listed zero number node at far = absurd (let small = within board.nodes number node at in let more = longer in omega (arith, small, more, far))
  listed (suc fuel) number node at far = elim (cases_eq number (node_of event)) [
    | inl same ↦
        let found = effect_states setting board event lawful (node_of event) (settled board lawful.node event) (there_now board.nodes (born board lawful.node event) (node_of event) lawful.node (settled board lawful.node event) lawful.is) in
        let now : opens_from new (suc (suc fuel)) (node_of event) ≡ kids = opens_step new (suc fuel) (node_of event) found.node found.is ∙ (ap (opens_by (λ n. opens_from new (suc fuel) n) (node_of event)) found.same ∙ own_listed fuel) in
        let before : opens_from board.nodes (suc (suc fuel)) (node_of event) ≡ node_of event ∷ [] = opens_step board.nodes (suc fuel) (node_of event) lawful.node lawful.is ∙ ap (opens_by (λ n. opens_from board.nodes (suc fuel) n) (node_of event)) lawful.opened in
        let put : replaced (node_of event) kids (node_of event ∷ []) ≡ kids = ap (λ test. replaced_by test (node_of event) kids []) (eq-eqb (node_of event) (node_of event) refl) ∙ none_after kids in
        ap (opens_from new (suc (suc fuel))) same ∙ (now ∙ (sym put ∙ ap (replaced (node_of event) kids) (sym before ∙ ap (opens_from board.nodes (suc (suc fuel))) (sym same))))
    | inr apart ↦
        let found = effect_states setting board event lawful number node (still board.nodes (born board lawful.node event) (node_of event) number (settled board lawful.node event) node apart at) in
        opens_step new (suc fuel) number found.node found.is
        ∙ (ap (opens_by (λ n. opens_from new (suc fuel) n) number) found.same
        ∙ (by apart node.state refl (λ child later one one_at. listed fuel child one one_at (omega (arith, far, later)))
        ∙ ap (replaced (node_of event) kids) (sym (opens_step board.nodes (suc fuel) number node at))))
  ]
    where
      by : number ≢ node_of event → (state : NodeState) → node.state ≡ state → ((child : ℕ) → number < child → (one : Node) → slice_get board.nodes child ≡ Some one → opens_from new (suc fuel) child ≡ replaced (node_of event) kids (opens_from board.nodes (suc fuel) child))
          → opens_by (λ n. opens_from new (suc fuel) n) number state ≡ replaced (node_of event) kids (opens_by (λ n. opens_from board.nodes (suc fuel) n) number state)
      by apart (Split inst first) is go =
          let own = split_at setting board facts.each number node inst first at is in
          replaced_among (node_of event) kids (λ n. opens_from new (suc fuel) n) (λ n. opens_from board.nodes (suc fuel) n) first inst.conclusions (λ n from below.
          let (one, one_at, path) = child_path board.nodes first node.path node.lits node.barred inst.conclusions own.children n from below in
          go n (omega (arith, own.later, from)) one one_at)
      by apart Open is go = sym (ap (λ test. replaced_by test number kids []) (never_true (nat_eq number (node_of event)) (λ e. apart (eqb-true number (node_of event) e))))
      by apart (Rejected inst) is go = refl
      by apart (Settled lemma) is go = refl
      by apart (Shut closure) is go = refl
      by apart Found is go = refl
      by apart (Covered cover) is go = refl
      by apart (Heavy inst) is go = refl

pub lists_open : (setting : Setting) (board : Board) → IsProblem setting.problem → IsReplay setting board → ListsOpen setting board
lists_open setting board real replay =
    let facts = replay_board setting board real replay in
    record {
      head = head_is board.nodes (length board.nodes) 0;
      more = λ event lawful.
          let next = effect_board setting board real facts event lawful in
          let (root, at, path, lits, barred) = facts.root in
          let (top, top_at, top_path, top_lits, top_barred) = next.root in
          let more = longer setting board facts event lawful in
          enough setting (effect setting board event) next (length (effect setting board event).nodes) (suc (length (effect setting board event).nodes)) 0 (omega arith) (omega arith) top top_at
          ∙ (listed setting board facts event lawful (length (effect setting board event).nodes) 0 root at (omega arith)
          ∙ ap (replaced (node_of event) (open_numbers (length board.nodes) (born board lawful.node event))) (enough setting board facts (suc (length (effect setting board event).nodes)) (length board.nodes) 0 (omega (arith, more)) (omega arith) root at));
    }
