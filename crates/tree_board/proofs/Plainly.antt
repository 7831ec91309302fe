-- No more extensions stand at a node and below it than its plain tree has.
use Rattle.std.proofs.Common.{◌≡◌, ◌≢◌, ℕ, zero, suc, ◌+◌, ◌<◌, ◌≤◌, Bool, true, false, true≢false, nat_eq, List, [], ◌∷◌, length, slice_get, slice_set, Option, Some, None, refl, sym, ap, subst, ◌∙◌, inl, inr, arith}
use Rattle.std.specs.List.{list_any}
use Rattle.std.proofs.lemmas.Bool.{cases_eq, eqb-true}
use Rattle.mg_word.specs.Facts.{ProblemData, IsProblem}
use Rattle.mg_word.specs.declared.lit.Lit.{Lit}
use Rattle.mg_word.specs.declared.form.Inst.{Inst}
use Rattle.mg_word.proofs.Members.{either_true, never_true}
use Rattle.mg_meaning.specs.Violation.{IsLeast}
use Rattle.mg_meaning.specs.PlainTree.{Shape, Shapes, saturated, rejected, split, extends_in, extends_in_all, IsPlain, ArePlain, Plain}
use Rattle.mg_meaning.specs.Folding.{Pair}
use Rattle.mg_meaning.proofs.InstOrders.{least_same, least_not_saturated}
use Rattle.mg_meaning.proofs.PlainShapes.{heavy_not_plain}
use Rattle.tree_board.specs.declared.event.Event.{Event}
use Rattle.tree_board.specs.declared.event.Event.TheVariants.{Extend, Reject, ByLemma, Saturated, Covered as CoveredBy, Heavy as TooHeavy}
use Rattle.tree_board.specs.Boards.{Board, opening}
use Rattle.tree_board.specs.Closings.{due, closed_by, closed_node, closed_at}
use Rattle.tree_board.specs.Effects.{settled, born, moved, effect}
use Rattle.tree_board.specs.Events.{node_of}
use Rattle.tree_board.specs.Facts.{IsAmong, IsPath, IsBoard}
use Rattle.tree_board.specs.Lawful.{lemma_for, cover_for, IsDue, IsLawful, IsReplay}
use Rattle.tree_board.specs.NodeStates.{NodeState, Open, Split, Rejected, Settled, Found, Covered}
use Rattle.tree_board.specs.Nodes.{Node}
use Rattle.tree_board.specs.PlainLaws.{IsWithinPlain}
use Rattle.tree_board.specs.Settings.{Setting}
use Rattle.tree_board.specs.Splits.{is_below}
use Rattle.tree_board.proofs.Places.{same_some, within, whence, get_set_same, get_set_other}
use Rattle.tree_board.proofs.Settling.{settled_keeps}
use Rattle.tree_board.proofs.Below.{split_above}
use Rattle.tree_board.proofs.Replays.{climb_keeps, effect_is, effect_board, opening_board, replay_keeps}
use Rattle.tree_board.proofs.Sums.{IsPart, IsSum, sum_at, sum_append, sum_children, sum_elsewhere, sum_none, child_sum, sum_bounds, no_heavy}

-- a plain tree at a node bounds the sum of the node and those below it
abbrev pub Weighs : Setting → Board → Type 0
Weighs setting board = (number : ℕ) (node : Node) → slice_get board.nodes number ≡ Some node → (extends : ℕ) → Plain setting.problem setting.limits.weight node.lits node.barred extends
    → (total : ℕ) × IsSum setting.problem setting.limits.weight number board.nodes total × (total ≤ extends)

-- the shape of a plain tree at a node whose least violated instance has conclusions
pub record IsSplitPlain (problem : ProblemData) (weight : ℕ) (lits barred : List Lit) (inst : Inst) (own : ℕ) : Type 0 where
  pub shapes : Shapes
  pub plain : ArePlain problem weight lits barred inst.conclusions shapes
  pub size : own ≡ 1 + extends_in_all shapes

pub split_plain : (problem : ProblemData) (weight : ℕ) (lits barred : List Lit) (inst : Inst) (own : ℕ) → IsLeast problem lits inst → inst.conclusions ≢ [] → Plain problem weight lits barred own → IsSplitPlain problem weight lits barred inst own
split_plain problem weight lits barred inst own least some (shape, is, size) = by shape is size
  where
    by : (one : Shape) → IsPlain problem weight lits barred one → extends_in one ≡ own → IsSplitPlain problem weight lits barred inst own
    by saturated is size = absurd (least_not_saturated problem lits inst least is)
    by (rejected other) is size = absurd (some (ap (λ (one : Inst). one.conclusions) (least_same problem lits inst other least is.0) ∙ is.1))
    by (split other children) is size = record {
      shapes = children;
      plain = subst (λ (one : Inst). ArePlain problem weight lits barred one.conclusions children) (sym (least_same problem lits inst other least is.0)) is.3;
      size = sym size;
    }

any_among : (path : List ℕ) (top : ℕ) → list_any (nat_eq top) path ≡ true → IsAmong path top
any_among [] top e = absurd (true≢false (sym e))
any_among (number ∷ path) top e = elim (either_true (nat_eq top number) (list_any (nat_eq top) path) e) [
  | inl same ↦ inl (sym (eqb-true top number same))
  | inr later ↦ inr (any_among path top later)
]

-- all numbers of a path are those of nodes
path_within : (setting : Setting) (board : Board) → IsBoard setting board → (number : ℕ) (node : Node) → slice_get board.nodes number ≡ Some node → (top : ℕ) → IsAmong node.path top → top < length board.nodes
path_within setting board facts number node is top there =
    let one = facts.each number node is in
    elim (subst (λ path. IsAmong path top) one.path there) [
      | inl same ↦ let small = within board.nodes number node is in omega (arith, small, same)
      | inr later ↦
          let up = split_above setting board facts.each number one.above (subst (IsPath board.nodes) one.path one.rooted) top later in
          within board.nodes top up.0 up.3
    ]

module _ (setting : Setting) (board : Board) (facts : IsBoard setting board) (weighs : Weighs setting board) (node : Node) (event : Event) (at : slice_get board.nodes (node_of event) ≡ Some node) (opened : node.state ≡ Open)
    (due : IsDue setting board node (lemma_for board node) (cover_for setting.mode board node) event) where
  abbrev weight : ℕ
  weight = setting.limits.weight

  abbrev Less : ℕ → ℕ → Type 0
  Less top most = (total : ℕ) × IsSum setting.problem weight top (moved board node event).nodes total × (total ≤ most)

  -- the sum for an old node
  old_sum : (top total : ℕ) → top < length board.nodes → IsSum setting.problem weight top board.nodes total → Less top total
  old_sum top total small sum = let parts = sum_at setting.problem weight top board.nodes (node_of event) node total at sum in by parts.own parts.rest parts.sum (is_below top node) refl parts.part parts.again event refl
    where
      -- what the children count, and the settled node
      done : (new rest kids : ℕ) → IsSum setting.problem weight top (slice_set board.nodes (node_of event) (settled board node event)) (new + rest) → IsSum setting.problem weight top (born board node event) kids → (new + rest) + kids ≤ total → Less top total
      done new rest kids one two few = (
        (new + rest) + kids,
        sum_append setting.problem weight top (slice_set board.nodes (node_of event) (settled board node event)) (born board node event) (new + rest) kids one two,
        few,
      )

      out_part : (one : Node) (test : Bool) (state : NodeState) → test ≡ false → IsPart setting.problem weight one 0 test state
      out_part one false state e = refl
      out_part one true state e = absurd (true≢false e)

      born_out : (one : Event) → event ≡ one → is_below top node ≡ false → IsSum setting.problem weight top (born board node one) 0
      born_out (Extend number inst) is out = sum_elsewhere setting.problem weight top node.path node.lits node.barred inst.conclusions (length board.nodes) out small
      born_out (Reject number inst) is out = refl
      born_out (ByLemma number which) is out = refl
      born_out (Saturated number) is out = refl
      born_out (CoveredBy number cover) is out = refl
      born_out (TooHeavy number inst) is out = refl

      path_same : is_below top (settled board node event) ≡ is_below top node
      path_same = ap (list_any (nat_eq top)) (settled_keeps board node event).path

      -- where the node is at the top or below it
      inside : (own rest : ℕ) → total ≡ own + rest → is_below top node ≡ true → Plain setting.problem weight node.lits node.barred own
          → ((after : Node) (new : ℕ) → IsPart setting.problem weight after new (is_below top after) after.state → IsSum setting.problem weight top (slice_set board.nodes (node_of event) after) (new + rest))
          → (one : Event) → event ≡ one → IsDue setting board node (lemma_for board node) (cover_for setting.mode board node) one → Less top total
      inside own rest is below plain again (Extend number inst) e due_one =
          let shape = split_plain setting.problem weight node.lits node.barred inst own due_one.2 due_one.3 plain in
          done 1 rest (extends_in_all shape.shapes) (again (settled board node event) 1 (subst (λ (ev : Event). IsPart setting.problem weight (settled board node ev) 1 (is_below top (settled board node ev)) (settled board node ev).state) (sym e) (subst (λ test. IsPart setting.problem weight (settled board node (Extend number inst)) 1 test (Split inst (length board.nodes))) (sym below) refl)))
          (subst (λ (ev : Event). IsSum setting.problem weight top (born board node ev) (extends_in_all shape.shapes)) (sym e) (sum_children setting.problem weight top node.path node.lits node.barred inst.conclusions shape.shapes (length board.nodes) below shape.plain))
          (omega (arith, is, shape.size))
      inside own rest is below plain again (Reject number inst) e due_one =
          done 0 rest 0 (again (settled board node event) 0 (subst (λ (ev : Event). IsPart setting.problem weight (settled board node ev) 0 (is_below top (settled board node ev)) (settled board node ev).state) (sym e) (subst (λ test. IsPart setting.problem weight (settled board node (Reject number inst)) 0 test (Rejected inst)) (sym below) refl)))
          (subst (λ (ev : Event). IsSum setting.problem weight top (born board node ev) 0) (sym e) refl) (omega (arith, is))
      inside own rest is below plain again (ByLemma number which) e due_one =
          done 0 rest 0 (again (settled board node event) 0 (subst (λ (ev : Event). IsPart setting.problem weight (settled board node ev) 0 (is_below top (settled board node ev)) (settled board node ev).state) (sym e) (subst (λ test. IsPart setting.problem weight (settled board node (ByLemma number which)) 0 test (Settled which)) (sym below) refl)))
          (subst (λ (ev : Event). IsSum setting.problem weight top (born board node ev) 0) (sym e) refl) (omega (arith, is))
      inside own rest is below plain again (Saturated number) e due_one =
          done 0 rest 0 (again (settled board node event) 0 (subst (λ (ev : Event). IsPart setting.problem weight (settled board node ev) 0 (is_below top (settled board node ev)) (settled board node ev).state) (sym e) (subst (λ test. IsPart setting.problem weight (settled board node (Saturated number)) 0 test Found) (sym below) refl)))
          (subst (λ (ev : Event). IsSum setting.problem weight top (born board node ev) 0) (sym e) refl) (omega (arith, is))
      inside own rest is below plain again (CoveredBy number cover) e due_one =
          done 0 rest 0 (again (settled board node event) 0 (subst (λ (ev : Event). IsPart setting.problem weight (settled board node ev) 0 (is_below top (settled board node ev)) (settled board node ev).state) (sym e) (subst (λ test. IsPart setting.problem weight (settled board node (CoveredBy number cover)) 0 test (Covered cover)) (sym below) refl)))
          (subst (λ (ev : Event). IsSum setting.problem weight top (born board node ev) 0) (sym e) refl) (omega (arith, is))
      inside own rest is below plain again (TooHeavy number inst) e due_one =
          absurd (heavy_not_plain setting.problem weight node.lits node.barred inst due_one.2 due_one.3 own plain)

      by : (own rest : ℕ) → total ≡ own + rest → (test : Bool) → is_below top node ≡ test → IsPart setting.problem weight node own (is_below top node) node.state
          → ((after : Node) (new : ℕ) → IsPart setting.problem weight after new (is_below top after) after.state → IsSum setting.problem weight top (slice_set board.nodes (node_of event) after) (new + rest))
          → (one : Event) → event ≡ one → Less top total
      by own rest is false out part again one e =
          done 0 rest 0 (again (settled board node event) 0 (out_part (settled board node event) (is_below top (settled board node event)) (settled board node event).state (path_same ∙ out))) (born_out event refl out) (omega (arith, is))
      by own rest is true below part again one e =
          inside own rest is below (subst (IsPart setting.problem weight node own true) opened (subst (λ test. IsPart setting.problem weight node own test node.state) below part)) again event refl due

  -- the sum for a new node
  new_sum : (j : ℕ) (x : Node) → slice_get (born board node event) j ≡ Some x → (extends : ℕ) → Plain setting.problem weight x.lits x.barred extends → Less (length board.nodes + j) extends
  new_sum j x there extends plain = by event refl there
    where
      out : (k : ℕ) (y : Node) → slice_get board.nodes k ≡ Some y → is_below (length board.nodes + j) y ≡ false
      out k y is = never_true (is_below (length board.nodes + j) y) (λ e. let small = path_within setting board facts k y is (length board.nodes + j) (any_among y.path (length board.nodes + j) e) in omega (arith, small))

      all_out : (k : ℕ) (y : Node) → slice_get (slice_set board.nodes (node_of event) (settled board node event)) k ≡ Some y → is_below (length board.nodes + j) y ≡ false
      all_out k y is = elim (cases_eq k (node_of event)) [
        | inl same ↦
            let own : y ≡ settled board node event = same_some y (settled board node event) (sym is ∙ ap (slice_get (slice_set board.nodes (node_of event) (settled board node event))) same ∙ get_set_same board.nodes (node_of event) node (settled board node event) at) in
            ap (is_below (length board.nodes + j)) own ∙ (ap (list_any (nat_eq (length board.nodes + j))) (settled_keeps board node event).path ∙ out (node_of event) node at)
        | inr apart ↦ out k y (sym (get_set_other board.nodes (node_of event) k (settled board node event) apart) ∙ is)
      ]

      by : (one : Event) → event ≡ one → slice_get (born board node one) j ≡ Some x → Less (length board.nodes + j) extends
      by (Extend number inst) e here =
          let (total, sum, few) = child_sum setting.problem weight node.path node.lits node.barred inst.conclusions (length board.nodes) j x here (out (node_of event) node at) extends plain in (
            0 + total,
            sum_append setting.problem weight (length board.nodes + j) (slice_set board.nodes (node_of event) (settled board node event)) (born board node event) 0 total
                (sum_none setting.problem weight (length board.nodes + j) (slice_set board.nodes (node_of event) (settled board node event)) all_out)
                (subst (λ (ev : Event). IsSum setting.problem weight (length board.nodes + j) (born board node ev) total) (sym e) sum),
            omega (arith, few),
          )
      by (Reject number inst) e here = absurd (let bad : ⊥ = cc in bad)
      by (ByLemma number which) e here = absurd (let bad : ⊥ = cc in bad)
      by (Saturated number) e here = absurd (let bad : ⊥ = cc in bad)
      by (CoveredBy number cover) e here = absurd (let bad : ⊥ = cc in bad)
      by (TooHeavy number inst) e here = absurd (let bad : ⊥ = cc in bad)

  pub moved_weighs : Weighs setting (moved board node event)
  moved_weighs number x is extends plain = elim (whence board.nodes (born board node event) (node_of event) node (settled board node event) number x at is) [
    | inl (same, new) ↦
        let keeps = settled_keeps board node event in
        let old : Plain setting.problem weight node.lits node.barred extends = subst (λ lits. Plain setting.problem weight lits node.barred extends) keeps.lits (subst (λ barred. Plain setting.problem weight (settled board node event).lits barred extends) keeps.barred (subst (λ (y : Node). Plain setting.problem weight y.lits y.barred extends) new plain)) in
        subst (λ top. Less top extends) (sym same) (further (node_of event) (within board.nodes (node_of event) node at) (weighs (node_of event) node at extends old))
    | inr (inl (apart, old)) ↦ further number (within board.nodes number x old) (weighs number x old extends plain)
    | inr (inr (j, place, there)) ↦ subst (λ top. Less top extends) (sym place) (new_sum j x there extends plain)
  ]
    where
      further : (top : ℕ) → top < length board.nodes → (total : ℕ) × IsSum setting.problem weight top board.nodes total × (total ≤ extends) → Less top extends
      further top small (total, sum, few) = let (less, new, fewer) = old_sum top total small sum in (less, new, omega (arith, few, fewer))

-- closing a node changes no sum
pub closed_at_weighs : (setting : Setting) (board : Board) (number : ℕ) → Weighs setting board → Weighs setting (closed_at setting board number)
unfolding closed_at
closed_at_weighs setting board number weighs = by (slice_get board.nodes number) refl
  where
    close : (node : Node) → slice_get board.nodes number ≡ Some node → (pair : Option Pair) → Weighs setting (closed_by setting board number node pair)
    close node at None = weighs
    close node at (Some pair) = λ top x is extends plain.
        let after : Node = record node { own = Some pair } in
        let old : (y : Node) × (slice_get board.nodes top ≡ Some y) × Plain setting.problem setting.limits.weight y.lits y.barred extends = elim (cases_eq top number) [
          | inl same ↦
              let own : x ≡ after = same_some x after (sym is ∙ ap (slice_get (slice_set board.nodes number after)) same ∙ get_set_same board.nodes number node after at) in
              (node, ap (slice_get board.nodes) same ∙ at, subst (λ (y : Node). Plain setting.problem setting.limits.weight y.lits y.barred extends) own plain)
          | inr apart ↦ (x, sym (get_set_other board.nodes number top after apart) ∙ is, plain)
        ] in
        let (total, sum, few) = weighs top old.0 old.1 extends old.2 in
        let parts = sum_at setting.problem setting.limits.weight top board.nodes number node total at sum in
        (parts.own + parts.rest, parts.again after parts.own parts.part, omega (arith, parts.sum, few))

    by : (node : Option Node) → slice_get board.nodes number ≡ node → Weighs setting (closed_node setting board number node)
    by None at = weighs
    by (Some node) at = close node at (due board.nodes node)

pub effect_weighs : (setting : Setting) (board : Board) → IsBoard setting board → Weighs setting board → (event : Event) → IsLawful setting board event → Weighs setting (effect setting board event)
effect_weighs setting board facts weighs event lawful =
    subst (Weighs setting) (sym (effect_is setting board event lawful.node lawful.is))
    (climb_keeps setting (Weighs setting) (λ number one holds. closed_at_weighs setting one number holds) lawful.node.path (moved board lawful.node event) (moved_weighs setting board facts weighs lawful.node event lawful.is lawful.opened lawful.due))

pub opening_weighs : (setting : Setting) → Weighs setting opening
opening_weighs setting zero node is extends plain =
    let same : record { path = 0 ∷ []; lits = []; barred = []; state = Open; own = None } ≡ node = same_some (record { path = 0 ∷ []; lits = []; barred = []; state = Open; own = None }) node is in
    (extends, (extends, 0, omega arith, subst (λ (one : Node). Plain setting.problem setting.limits.weight one.lits one.barred extends) (sym same) plain, refl), omega arith)
opening_weighs setting (suc number) node is extends plain = absurd (let bad : ⊥ = cc in bad)

-- both are kept together
pub record IsWeighed (setting : Setting) (board : Board) : Type 0 where
  pub facts : IsBoard setting board
  pub weighs : Weighs setting board

pub replay_weighs : (setting : Setting) (board : Board) → IsProblem setting.problem → IsReplay setting board → IsWeighed setting board
replay_weighs setting board real replay =
    subst (IsWeighed setting) replay.is
    (replay_keeps setting (IsWeighed setting) (λ one event holds lawful. record { facts = effect_board setting one real holds.facts event lawful; weighs = effect_weighs setting one holds.facts holds.weighs event lawful }) replay.events opening
    (record { facts = opening_board setting; weighs = opening_weighs setting }) replay.lawful)

pub plain_bounds : (setting : Setting) (board : Board) → IsProblem setting.problem → IsReplay setting board
    → (number : ℕ) (node : Node) → slice_get board.nodes number ≡ Some node → (extends : ℕ) → Plain setting.problem setting.limits.weight node.lits node.barred extends → IsWithinPlain board number extends
plain_bounds setting board real replay number node is extends plain =
    let (total, sum, few) = (replay_weighs setting board real replay).weighs number node is extends plain in
    let bound = sum_bounds setting.problem setting.limits.weight number board.nodes total sum in
    record {
      splits = omega (arith, bound, few);
      no_heavy = λ k below inst at there heavy. no_heavy setting.problem setting.limits.weight number board.nodes total sum k below inst at there heavy;
    }
