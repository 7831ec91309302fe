-- The walk to the next open node: into a child, or to the first node behind.
use Rattle.std.proofs.Common.{◌≡◌, ◌≢◌, ◌↔◌, IsTrue, ◌+◌, ◌<◌, ◌≤◌, ◌^◌, ℕ, zero, suc, Bool, true, false, true≢false, cond, nat_eq, List, [], ◌∷◌, ◌++◌, drop, is_some, length, reverse, slice_get, Option, Some, None, option_map, refl, sym, ap, ap₂, subst, ◌∙◌, ◌⊎◌, inl, inr, append_assoc, arith}
use Rattle.std.proofs.lemmas.Bool.{cases_eq, cases_lt, eq-eqb, eqb-true}
use Rattle.std.proofs.lemmas.Cmp.{tied_itself}
use Rattle.std.proofs.lemmas.List.{reverse-append, reverse-reverse}
use Rattle.std.proofs.lemmas.Option.{slice_get_within}
use Rattle.std.specs.Prelude.{option_and_then}
use Rattle.std.specs.Cmp.{nat_cmp_total}
use Rattle.std.specs.Cmp.Lexicographic.{lists_total, slice_cmp}
use Rattle.std.specs.Ordering.{is_lt, nat_cmp, ordering_reverse, ordering_then}
use Rattle.std.specs.declared.cmp.Ordering.{Ordering}
use Rattle.std.specs.declared.cmp.Ordering.TheVariants.{Equal, Greater, Less}
use Rattle.mg_word.specs.declared.form.Inst.{Inst}
use Rattle.mg_word.specs.declared.lit.Lit.{Lit}
use Rattle.mg_meaning.specs.Folding.{Pair, folded}
use Rattle.case_split.specs.declared.child.Closure.{Closure}
use Rattle.tree_board.specs.declared.cell.Cell.{Cell}
use Rattle.tree_board.specs.declared.tally.Tally.{Tally}
use Rattle.tree_board.specs.Boards.{Board, own_of}
use Rattle.tree_board.specs.CellClimbs.{unclosed_first}
use Rattle.tree_board.specs.Cells.{parent_of}
use Rattle.tree_board.specs.Closings.{due, due_own, due_state, pairs_at}
use Rattle.tree_board.specs.Facts.{IsAmong, IsBoard, IsChildOf, IsPath, StateHolds}
use Rattle.tree_board.specs.Keeping.{IsKeeping}
use Rattle.tree_board.specs.NextOpen.{AnswersNext, ComesAfter, GoesBehind, GoesOn, IsBehind, IsNextOpen, IsOnTheWay, IsOpenAfter}
use Rattle.tree_board.specs.NodeStates.{NodeState, Open, Split, Rejected, Settled, Shut, Found, Covered, Heavy}
use Rattle.tree_board.specs.Nodes.{Node}
use Rattle.tree_board.specs.Readers.{first_child_of, sibling_in}
use Rattle.tree_board.specs.Searches.{Search, board_of, setting_of}
use Rattle.tree_board.specs.Settings.{Setting}
use Rattle.tree_board.specs.Settling.{IsOpenAt}
use Rattle.tree_board.specs.Splits.{one_if}
use Rattle.tree_board.specs.TreeOrder.{tree_cmp}
use Rattle.tree_board.specs.Workers.{IsKnown}
use Rattle.tree_board.proofs.Below.{node_closed, split_at}
use Rattle.tree_board.proofs.Climbing.{child_path, parent_path, replay_climbed, split_same}
use Rattle.tree_board.proofs.Covering.{root_above}
use Rattle.tree_board.proofs.Kept.{board_kept, cell_at, few_cells, no_cell, nodes_kept, replay_kept}
use Rattle.tree_board.proofs.OneWorker.{same_place}
use Rattle.tree_board.proofs.Places.{among_right, same_some, some_none}
use Rattle.tree_board.proofs.Replays.{replay_board}
use Rattle.tree_board.proofs.Shown.{first_child_same, seen_then}
use Rattle.tree_board.proofs.TreeOrder.{before_below, before_beside, below_less, ends, turned}
use Rattle.tree_board.proofs.Walking.{not_before_itself, not_less_turned, through_child}

trans_less : (x y z : Node) → tree_cmp x y ≡ Less → tree_cmp y z ≡ Less → tree_cmp x z ≡ Less
trans_less x y z first second = (lists_total nat_cmp_total).trans (reverse x.path) (reverse y.path) (reverse z.path) first second

there_is : (nodes : List Node) (number : ℕ) → number < length nodes → (node : Node) × (slice_get nodes number ≡ Some node)
there_is [] number small = absurd (omega (arith, small))
there_is (node ∷ nodes) zero small = (node, refl)
there_is (node ∷ nodes) (suc number) small = there_is nodes number (omega (arith, small))

-- ---- how many nodes come after one

abbrev pub later_in : Node → List Node → ℕ
later_in node [] = 0
later_in node (other ∷ nodes) = one_if (is_lt (tree_cmp node other)) + later_in node nodes

abbrev pub later_of : List Node → Option Node → ℕ
later_of nodes None = 0
later_of nodes (Some node) = later_in node nodes

-- than the one with that number
abbrev pub later_count : List Node → ℕ → ℕ
later_count nodes number = later_of nodes (slice_get nodes number)

module _ (a b : Node) (less : tree_cmp a b ≡ Less) where
  one_later : (x : Node) → one_if (is_lt (tree_cmp b x)) ≤ one_if (is_lt (tree_cmp a x))
  one_later x = by (tree_cmp b x) refl
    where
      by : (answer : Ordering) → tree_cmp b x ≡ answer → one_if (is_lt answer) ≤ one_if (is_lt (tree_cmp a x))
      by Less e = let more : one_if (is_lt (tree_cmp a x)) ≡ 1 = ap (λ one. one_if (is_lt one)) (trans_less a b x less e) in let own : one_if (is_lt Less) ≡ 1 = refl in omega (arith, more, own)
      by Equal e = let own : one_if (is_lt Equal) ≡ 0 = refl in omega (arith, own)
      by Greater e = let own : one_if (is_lt Greater) ≡ 0 = refl in omega (arith, own)

  all_later : (nodes : List Node) → later_in b nodes ≤ later_in a nodes
  all_later [] = omega arith
  all_later (x ∷ nodes) = let one = one_later x in let rest = all_later nodes in omega (arith, one, rest)

  fewer_later : (nodes : List Node) (number : ℕ) → slice_get nodes number ≡ Some b → later_in b nodes < later_in a nodes
  fewer_later [] number at = absurd (let bad : ⊥ = cc in bad)
  fewer_later (x ∷ nodes) zero at =
      let same = same_some x b at in
      let tied = tied_itself (lists_total nat_cmp_total) (reverse b.path) in
      let own : one_if (is_lt (tree_cmp b x)) ≡ 0 = ap (λ (n : Node). one_if (is_lt (tree_cmp b n))) same ∙ ap (λ one. one_if (is_lt one)) tied in
      let more : one_if (is_lt (tree_cmp a x)) ≡ 1 = ap (λ (n : Node). one_if (is_lt (tree_cmp a n))) same ∙ ap (λ one. one_if (is_lt one)) less in
      let rest = all_later nodes in
      omega (arith, own, more, rest)
  fewer_later (x ∷ nodes) (suc number) at = let one = one_later x in let rest = fewer_later nodes number at in omega (arith, one, rest)

-- ---- lists between two that begin alike

above_greater : (m n : ℕ) → n < m → nat_cmp m n ≡ Greater
above_greater m n less = nat_cmp_total.antisymm m n ∙ ap ordering_reverse (below_less n m less)

not_greater : (answer : Ordering) (rest : Ordering) → answer ≡ Greater → ordering_then answer rest ≡ Less → ⊥
not_greater answer rest is less = let greater : ordering_then answer rest ≡ Greater = ap (λ one. ordering_then one rest) is in let bad : ⊥ = cc in bad

between : (front xs ys zs : List ℕ) → slice_cmp nat_cmp (front ++ xs) ys ≡ Less → slice_cmp nat_cmp ys (front ++ zs) ≡ Less → (rest : List ℕ) × (ys ≡ front ++ rest)
between [] xs ys zs less more = (ys, refl)
between (n ∷ front) xs [] zs less more = absurd (let bad : ⊥ = cc in bad)
between (n ∷ front) xs (m ∷ ys) zs less more = elim (cases_lt n m) [
  | inl small ↦ absurd (not_greater (nat_cmp m n) (slice_cmp nat_cmp ys (front ++ zs)) (above_greater m n small) more)
  | inr large ↦ elim (cases_eq n m) [
    | inr apart ↦ absurd (not_greater (nat_cmp n m) (slice_cmp nat_cmp (front ++ xs) ys) (above_greater n m (omega (arith, large, apart))) less)
    | inl same ↦
        let first : nat_cmp n m ≡ Equal = ap (nat_cmp n) (sym same) ∙ tied_itself nat_cmp_total n in
        let second : nat_cmp m n ≡ Equal = ap (λ k. nat_cmp k n) (sym same) ∙ tied_itself nat_cmp_total n in
        let (rest, is) = between front xs ys zs
        (sym (ap (λ one. ordering_then one (slice_cmp nat_cmp (front ++ xs) ys)) first) ∙ less)
        (sym (ap (λ one. ordering_then one (slice_cmp nat_cmp ys (front ++ zs))) second) ∙ more) in
        (rest, ap₂ (λ k list. k ∷ list) (sym same) is)
  ]
]

-- between two nodes below a node all are below it
between_below : (number : ℕ) (top one two three : Node) (front back : List ℕ) → IsAmong top.path number → one.path ≡ front ++ top.path → three.path ≡ back ++ top.path → tree_cmp one two ≡ Less → tree_cmp two three ≡ Less → IsAmong two.path number
between_below number top one two three front back there one_is three_is less more =
    let (rest, is) = between (reverse top.path) (reverse front) (reverse two.path) (reverse back)
    (ap (λ list. slice_cmp nat_cmp list (reverse two.path)) (sym (turned one.path front top.path one_is)) ∙ less)
    (ap (slice_cmp nat_cmp (reverse two.path)) (sym (turned three.path back top.path three_is)) ∙ more) in
    let path : two.path ≡ reverse rest ++ top.path = sym (reverse-reverse two.path) ∙ (ap reverse is ∙ (reverse-append (reverse top.path) rest ∙ ap (λ list. reverse rest ++ list) (reverse-reverse top.path))) in
    subst (λ all. IsAmong all number) (sym path) (among_right (reverse rest) top.path number there)

-- the first child of a split node that is not closed
abbrev unclosed_child : Node → Option ℕ
unclosed_child node = cond (is_some node.own) None (first_child_of node.state)

child_parts : (state : NodeState) (first : ℕ) → first_child_of state ≡ Some first → (inst : Inst) × (state ≡ Split inst first)
child_parts (Split inst other) first e = (inst, ap (Split inst) (same_some other first e))
child_parts Open first e = absurd (let bad : ⊥ = cc in bad)
child_parts (Rejected inst) first e = absurd (let bad : ⊥ = cc in bad)
child_parts (Settled lemma) first e = absurd (let bad : ⊥ = cc in bad)
child_parts (Shut closure) first e = absurd (let bad : ⊥ = cc in bad)
child_parts Found first e = absurd (let bad : ⊥ = cc in bad)
child_parts (Covered cover) first e = absurd (let bad : ⊥ = cc in bad)
child_parts (Heavy inst) first e = absurd (let bad : ⊥ = cc in bad)

unclosed_parts : (own : Option Pair) (state : NodeState) (first : ℕ) → cond (is_some own) None (first_child_of state) ≡ Some first → (own ≡ None) × (inst : Inst) × (state ≡ Split inst first)
unclosed_parts None state first e = let (inst, is) = child_parts state first e in (refl, inst, is)
unclosed_parts (Some pair) state first e = absurd (let bad : ⊥ = cc in bad)

-- the next child of a node, where a number has one
abbrev pub HasSibling : List Node → ℕ → Option ℕ → Type 0
HasSibling nodes number None = (parent : ℕ) → IsChildOf nodes number parent → IsChildOf nodes (number + 1) parent → ⊥
HasSibling nodes number (Some next) = (next ≡ number + 1) × ((parent : ℕ) → IsChildOf nodes number parent → IsChildOf nodes (number + 1) parent)

-- the way up from a node has come to this number: of what is below it, all that comes after the start is below the start
pub record IsUp (board : Board) (start number : ℕ) : Type 0 where
  pub top : Node
  pub starts : slice_get board.nodes start ≡ Some top
  pub here : Node
  pub is : slice_get board.nodes number ≡ Some here
  pub above : IsAmong top.path number
  pub only : (k : ℕ) (one : Node) → slice_get board.nodes k ≡ Some one → tree_cmp top one ≡ Less → IsAmong one.path number → IsAmong one.path start

module _ (setting : Setting) (board : Board) (facts : IsBoard setting board) where
  -- ---- children

  same_parents : (a b parent : ℕ) (one : IsChildOf board.nodes a parent) (two : IsChildOf board.nodes b parent) → one.node ≡ two.node
  same_parents a b parent one two = same_some one.node two.node (sym one.is ∙ two.is)

  same_first : (a b parent : ℕ) (one : IsChildOf board.nodes a parent) (two : IsChildOf board.nodes b parent) → (one.inst ≡ two.inst) × (one.first ≡ two.first)
  same_first a b parent one two = split_same one.inst two.inst one.first two.first (sym one.state ∙ (ap (λ (n : Node). n.state) (same_parents a b parent one two) ∙ two.state))

  child_between : (a b number parent : ℕ) → IsChildOf board.nodes a parent → IsChildOf board.nodes b parent → a ≤ number → number ≤ b → IsChildOf board.nodes number parent
  child_between a b number parent one two low high =
      let both = same_first a b parent one two in
      let sizes : length one.inst.conclusions ≡ length two.inst.conclusions = ap (λ (x : Inst). length x.conclusions) both.0 in
      let from = one.from in
      let below = two.below in
      record { node = one.node; is = one.is; inst = one.inst; first = one.first; state = one.state; from = omega (arith, from, low); below = omega (arith, high, below, both.1, sizes) }

  child_node : (number parent : ℕ) (child : IsChildOf board.nodes number parent) → (node : Node) × (slice_get board.nodes number ≡ Some node) × (node.path ≡ number ∷ child.node.path)
  child_node number parent child =
      let split = split_at setting board facts.each parent child.node child.inst child.first child.is child.state in
      child_path board.nodes child.first child.node.path child.node.lits child.node.barred child.inst.conclusions split.children number child.from child.below

  at_top : (number : ℕ) (node : Node) → slice_get board.nodes number ≡ Some node → IsAmong node.path number
  at_top number node at = subst (λ path. IsAmong path number) (sym (facts.each number node at).path) (inl refl)

  same_node : (a b : ℕ) (one two : Node) → a ≡ b → slice_get board.nodes a ≡ Some one → slice_get board.nodes b ≡ Some two → one ≡ two
  same_node a b one two same at_a at_b = same_some one two (sym at_a ∙ (ap (slice_get board.nodes) same ∙ at_b))

  -- all below a child is before all below a later one
  beside : (i j parent a b : ℕ) (one two : Node) → IsChildOf board.nodes i parent → IsChildOf board.nodes j parent → i < j → slice_get board.nodes a ≡ Some one → slice_get board.nodes b ≡ Some two → IsAmong one.path i → IsAmong two.path j → tree_cmp one two ≡ Less
  beside i j parent a b one two left right less at_a at_b below_i below_j =
      let (x, x_at, x_path) = child_node i parent left in
      let (y, y_at, y_path) = child_node j parent right in
      before_beside setting board facts a b i j one two x y at_a at_b x_at y_at (ap (drop 1) x_path ∙ (ap (λ (n : Node). n.path) (same_parents i j parent left right) ∙ sym (ap (drop 1) y_path))) less below_i below_j

  -- what is below a node is that node, or below a child of it
  under : (k top : ℕ) (one : Node) → slice_get board.nodes k ≡ Some one → IsAmong one.path top → (k ≡ top) ⊎ ((c : ℕ) × IsChildOf board.nodes c top × IsAmong one.path c)
  under k top one at there =
      let own = facts.each k one at in
      elim (subst (λ path. IsAmong path top) own.path there) [
        | inl same ↦ inl same
        | inr later ↦
            let (c, child, among) = through_child board.nodes k own.above (subst (IsPath board.nodes) own.path own.rooted) top later in
            inr (c, child, subst (λ path. IsAmong path c) (sym own.path) among)
      ]

  -- nothing at a node or below it is before it
  none_before : (top k : ℕ) (node one : Node) → slice_get board.nodes top ≡ Some node → slice_get board.nodes k ≡ Some one → IsAmong one.path top → tree_cmp one node ≡ Less → ⊥
  none_before top k node one at at_k there less = elim (cases_eq top k) [
    | inl same ↦ not_before_itself node (subst (λ (n : Node). tree_cmp n node ≡ Less) (sym (same_node top k node one same at at_k)) less)
    | inr apart ↦ not_less_turned one node less (before_below setting board facts top k node one at at_k apart there)
  ]

  -- ---- the way up

  pub up_begins : (start : ℕ) (node : Node) → slice_get board.nodes start ≡ Some node → IsUp board start start
  up_begins start node at = record { top = node; starts = at; here = node; is = at; above = at_top start node at; only = λ k one at_k less there. there }

  module _ (start number : ℕ) (up : IsUp board start number) where
    module _ (parent : ℕ) (child : IsChildOf board.nodes number parent) where
      parent_above : IsAmong up.top.path parent
      parent_above =
          let (front, path) = ends setting board facts start number up.top up.here up.starts up.is up.above in
          let own = parent_path setting board facts number parent up.here up.is child in
          subst (λ all. IsAmong all parent) (sym (path ∙ ap (λ rest. front ++ rest) own)) (among_right front (number ∷ child.node.path) parent (inr (at_top parent child.node child.is)))

      -- what comes after the start below the parent is below the start or below a later child
      beyond : (k : ℕ) (one : Node) → slice_get board.nodes k ≡ Some one → tree_cmp up.top one ≡ Less → IsAmong one.path parent → IsAmong one.path start ⊎ ((c : ℕ) × IsChildOf board.nodes c parent × (number < c) × IsAmong one.path c)
      beyond k one at less there = elim (under k parent one at there) [
        | inl same ↦ absurd (none_before k start one up.top at up.starts (subst (IsAmong up.top.path) (sym same) parent_above) less)
        | inr (c, child_c, below) ↦ elim (cases_lt c number) [
          | inl before ↦ absurd (not_less_turned up.top one less (beside c number parent k start one up.top child_c child before at up.starts below up.above))
          | inr more ↦ elim (cases_eq c number) [
            | inl same ↦ inl (up.only k one at less (subst (IsAmong one.path) same below))
            | inr apart ↦ inr (c, child_c, omega (arith, more, apart), below)
          ]
        ]
      ]

      goes_up : HasSibling board.nodes number None → IsUp board start parent
      goes_up last = record {
        top = up.top;
        starts = up.starts;
        here = child.node;
        is = child.is;
        above = parent_above;
        only = λ k one at less there. elim (beyond k one at less there) [
          | inl below ↦ below
          | inr (c, child_c, more, below) ↦ absurd (last parent child (child_between number c (number + 1) parent child child_c (omega arith) (omega (arith, more))))
        ];
      }

      finds : IsChildOf board.nodes (number + 1) parent → IsBehind board start (number + 1)
      finds next =
          let (node, node_at, path) = child_node (number + 1) parent next in
          let (front, up_path) = ends setting board facts start parent up.top child.node up.starts child.is parent_above in
          record {
            node = up.top;
            is = up.starts;
            other = node;
            there = node_at;
            later = beside number (number + 1) parent start (number + 1) up.top node child next (omega arith) up.starts node_at up.above (at_top (number + 1) node node_at);
            first = λ k one at less more.
                let below = between_below parent child.node up.top one node front ((number + 1) ∷ []) (at_top parent child.node child.is) up_path (path ∙ ap (λ (n : Node). (number + 1) ∷ n.path) (same_parents (number + 1) number parent next child)) less more in
                elim (beyond k one at less below) [
                  | inl there ↦ there
                  | inr (c, child_c, after, there) ↦ elim (cases_eq c (number + 1)) [
                    | inl same ↦ absurd (none_before (number + 1) k node one node_at at (subst (IsAmong one.path) same there) more)
                    | inr apart ↦ absurd (not_less_turned one node more (beside (number + 1) c parent (number + 1) k node one next child_c (omega (arith, after, apart)) node_at at (at_top (number + 1) node node_at) there))
                  ]
                ];
          }

    -- a child's parent, by its path
    has_parent : number ≢ 0 → (parent : ℕ) × IsChildOf board.nodes number parent
    has_parent some = let own = facts.each number up.here up.is in by own.above (subst (IsPath board.nodes) own.path own.rooted)
      where
        by : (above : List ℕ) → IsPath board.nodes (number ∷ above) → (parent : ℕ) × IsChildOf board.nodes number parent
        by [] root = absurd (some root)
        by (parent ∷ above) path = (parent, path.0)

    pub up_finds : number ≢ 0 → (next : ℕ) → HasSibling board.nodes number (Some next) → GoesBehind board start (Some next)
    up_finds some next sibling =
        let (parent, child) = has_parent some in
        subst (IsBehind board start) (sym sibling.0) (finds parent child (sibling.1 parent child))

    pub up_goes : number ≢ 0 → HasSibling board.nodes number None → (parent : ℕ) → ((up : ℕ) → IsChildOf board.nodes number up → up ≡ parent) → IsUp board start parent × (parent < number)
    up_goes some last parent parent_is =
        let (up_number, child) = has_parent some in
        let split = split_at setting board facts.each up_number child.node child.inst child.first child.is child.state in
        let low = split.later in
        let from = child.from in
        let same = parent_is up_number child in
        (subst (IsUp board start) same (goes_up up_number child last), omega (arith, low, from, same))

  pub up_ends : (start : ℕ) → IsUp board start 0 → GoesBehind board start None
  up_ends start up k node one node_at at less =
      let own = facts.each k one at in
      up.only k one at (subst (λ (n : Node). tree_cmp n one ≡ Less) (same_node start start node up.top refl node_at up.starts) less)
      (subst (λ path. IsAmong path 0) (sym own.path) (root_above board.nodes k own.above (subst (IsPath board.nodes) own.path own.rooted)))

  -- ---- where the walk goes on

  pub on_root : GoesOn board None (Some 0)
  on_root =
      let (root, at, path, lits, barred) = facts.root in
      record {
        node = root;
        is = at;
        later = tt;
        first = λ k other there less.
            let own = facts.each k other there.is in
            none_before 0 k root other at there.is (subst (λ path. IsAmong path 0) (sym own.path) (root_above board.nodes k own.above (subst (IsPath board.nodes) own.path own.rooted))) less;
      }

  pub on_past : (number : ℕ) → length board.nodes ≤ number → GoesOn board (Some number) None
  on_past number past k node there = let small = slice_get_within board.nodes number there.later.0 there.later.1 in omega (arith, small, past)

  module _ (number : ℕ) (node : Node) (at : slice_get board.nodes number ≡ Some node) where
    on_child : (inst : Inst) (first : ℕ) → node.state ≡ Split inst first → 0 < length inst.conclusions → GoesOn board (Some number) (Some first)
    on_child inst first state some =
        let child : IsChildOf board.nodes first number = record { node = node; is = at; inst = inst; first = first; state = state; from = omega arith; below = omega (arith, some) } in
        let split = split_at setting board facts.each number node inst first at state in
        let (x, x_at, path) = child_node first number child in
        let behind = split.later in
        record {
          node = x;
          is = x_at;
          later = (node, at, before_below setting board facts number first node x at x_at (λ same. omega (arith, behind, same)) (subst (λ all. IsAmong all number) (sym path) (inr (at_top number node at))));
          first = λ k other there less.
              let same = same_node number number there.later.0 node refl there.later.1 at in
              let after : tree_cmp node other ≡ Less = subst (λ (n : Node). tree_cmp n other ≡ Less) same there.later.2 in
              let below = between_below number node node other x [] (first ∷ []) (at_top number node at) refl path after less in
              elim (under k number other there.is below) [
                | inl here ↦ not_before_itself node (subst (λ (n : Node). tree_cmp node n ≡ Less) (same_node k number other node here there.is at) after)
                | inr (c, child_c, deeper) ↦ elim (cases_eq c first) [
                  | inl here ↦ none_before first k x other x_at there.is (subst (IsAmong other.path) here deeper) less
                  | inr apart ↦
                      let from = child_c.from in
                      let both = same_first c first number child_c child in
                      not_less_turned other x less (beside first c number first k x other child child_c (omega (arith, from, both.1, apart)) x_at there.is (at_top first x x_at) deeper)
                ]
              ];
        }

    -- where the node is closed or not split, nothing open is below it
    none_open : unclosed_child node ≡ None → (k : ℕ) (one : Node) → slice_get board.nodes k ≡ Some one → one.state ≡ Open → IsAmong one.path number → k ≡ number
    none_open shut k one at_k opened there = elim (under k number one at_k there) [
      | inl same ↦ same
      | inr (c, child, below) ↦ absurd (by child node.own refl)
    ]
      where
        by : {c : ℕ} → IsChildOf board.nodes c number → (own : Option Pair) → node.own ≡ own → ⊥
        by child None is =
            let state : node.state ≡ Split child.inst child.first = ap (λ (n : Node). n.state) (same_node number number node child.node refl at child.is) ∙ child.state in
            let first : unclosed_child node ≡ Some child.first = ap (λ own. cond (is_some own) None (first_child_of node.state)) is ∙ ap first_child_of state in
            let bad : ⊥ = cc in bad
        by child (Some pair) is =
            let closed = node_closed setting board facts.each k one at_k number there pair (ap own_of at ∙ is) in
            let unclosed : one.own ≡ None = subst (StateHolds setting board k one) opened (facts.each k one at_k).state in
            let bad : ⊥ = cc in bad

    on_behind : unclosed_child node ≡ None → (answer : Option ℕ) → GoesBehind board number answer → GoesOn board (Some number) answer
    on_behind shut None behind = λ k one there.
        let here = none_open shut k one there.is there.opened (behind k there.later.0 one there.later.1 there.is there.later.2) in
        not_before_itself one (subst (λ (n : Node). tree_cmp n one ≡ Less) (same_node number k there.later.0 one (sym here) there.later.1 there.is) there.later.2)
    on_behind shut (Some next) behind = record {
      node = behind.other;
      is = behind.there;
      later = (behind.node, behind.is, behind.later);
      first = λ k other there less.
          let after : tree_cmp behind.node other ≡ Less = subst (λ (n : Node). tree_cmp n other ≡ Less) (same_node number number there.later.0 behind.node refl there.later.1 behind.is) there.later.2 in
          let here = none_open shut k other there.is there.opened (behind.first k other there.is after less) in
          not_before_itself other (subst (λ (n : Node). tree_cmp n other ≡ Less) (same_node number k behind.node other (sym here) behind.is there.is) after);
    }

  -- ---- the walk

  module _ (after : Option ℕ) (number : ℕ) (way : IsOnTheWay board after number) where
    pub walk_found : IsOpenAt board number → AnswersNext board after (Some number)
    walk_found opened = record {
      node = way.node;
      there = record { is = way.is; opened = ap (λ (n : Node). n.state) (same_node number number way.node opened.node refl way.is opened.is) ∙ opened.opened; later = way.later };
      first = way.first;
    }

    still_after : (IsOpenAt board number → ⊥) → (k : ℕ) (other : Node) → IsOpenAfter board after k other → IsOpenAfter board (Some number) k other
    still_after shut k other there = record { is = there.is; opened = there.opened; later = (way.node, way.is, by (tree_cmp way.node other) refl) }
      where
        apart : number ≢ k
        apart same = shut (record { node = other; is = ap (slice_get board.nodes) same ∙ there.is; opened = there.opened })

        by : (answer : Ordering) → tree_cmp way.node other ≡ answer → tree_cmp way.node other ≡ Less
        by Less e = e
        by Equal e = absurd (apart (same_place setting board facts number k way.node other way.is there.is (λ less. let bad : ⊥ = cc in bad) (way.first k other there)))
        by Greater e = absurd (apart (same_place setting board facts number k way.node other way.is there.is (λ less. let bad : ⊥ = cc in bad) (way.first k other there)))

    comes_later : (from : Option ℕ) (one two : Node) → ComesAfter board from one → tree_cmp one two ≡ Less → ComesAfter board from two
    comes_later None one two later less = tt
    comes_later (Some start) one two (first, at, before) less = (first, at, trans_less first one two before less)

    pub walk_on : (IsOpenAt board number → ⊥) → (answer : Option ℕ) → GoesOn board (Some number) answer → GoesOn board after answer
    walk_on shut None none = by after refl
      where
        by : (from : Option ℕ) → after ≡ from → GoesOn board after None
        by from e k node there = none k node (still_after shut k node there)
    walk_on shut (Some next) on = record {
      node = on.node;
      is = on.is;
      later =
          let less = subst (λ (n : Node). tree_cmp n on.node ≡ Less) (same_node number number on.later.0 way.node refl on.later.1 way.is) on.later.2 in
          comes_later after way.node on.node way.later less;
      first = λ k other there. on.first k other (still_after shut k other there);
    }

  pub walk_less : (number next : ℕ) → IsOnTheWay board (Some number) next → later_count board.nodes next < later_count board.nodes number
  walk_less number next on =
      let less = fewer_later on.later.0 on.node on.later.2 board.nodes next on.is in
      let one = ap (later_of board.nodes) on.is in
      let two = ap (later_of board.nodes) on.later.1 in
      omega (arith, less, one, two)

module _ (setting : Setting) (board : Board) (known : IsKnown setting board) where
  pub goes_less : (number next : ℕ) → GoesOn board (Some number) (Some next) → later_count board.nodes next < later_count board.nodes number
  goes_less number next on = walk_less setting board (replay_board setting board known.real known.replay) number next on

  -- as the test tells whether the node is open
  module _ (after : Option ℕ) (number : ℕ) (way : IsOnTheWay board after number) (answer : Bool) (opens : IsTrue answer ↔ IsOpenAt board number) where
    pub walk_goes : answer ≡ false → (next : Option ℕ) → GoesOn board (Some number) next → GoesOn board after next
    walk_goes shut next on = walk_on setting board (replay_board setting board known.real known.replay) after number way (λ opened. true≢false (sym (opens.1 opened) ∙ shut)) next on

    pub walk_ends : answer ≡ true → AnswersNext board after (Some number)
    walk_ends holds = walk_found setting board (replay_board setting board known.real known.replay) after number way (opens.0 holds)

-- a split node that is not closed has children: else it could be closed
some_children : (nodes : List Node) (own : Option Pair) (state : NodeState) (inst : Inst) (first : ℕ) → own ≡ None → state ≡ Split inst first → due_own nodes state own ≡ None → 0 < length inst.conclusions
some_children nodes own state inst first unclosed split none = by inst.conclusions refl
  where
    by : (conclusions : List Lit) → inst.conclusions ≡ conclusions → 0 < length inst.conclusions
    by [] e =
        let closes : due_own nodes state own ≡ Some (folded inst []) = ap (due_own nodes state) unclosed ∙ (ap (due_state nodes) split ∙ ap (λ (list : List Lit). option_map (folded inst) (pairs_at nodes first list)) e) in
        absurd (let bad : ⊥ = cc in bad)
    by (lit ∷ more) e = let size = ap length e in omega (arith, size)

-- ---- of slices that show the cells, and of the search that callers see

module _ (search value : Search) (same_search : search ≡ value) (cells : List Cell) (closures : List Closure) (lemmas : List Pair) (lemma_nodes : List ℕ) (tally : Tally) (keeping : IsKeeping search cells closures lemmas lemma_nodes tally) (seen_cells : List Cell) (cells_are : seen_cells ≡ cells) where
  kept_now : IsKeeping value cells closures lemmas lemma_nodes tally
  kept_now = subst (λ one. IsKeeping one cells closures lemmas lemma_nodes tally) same_search keeping

  abbrev setting : Setting
  setting = setting_of value

  abbrev board : Board
  board = board_of value

  pub facts_now : IsBoard setting board
  facts_now = board_kept value cells closures lemmas lemma_nodes tally kept_now

  sizes_now : length seen_cells ≡ length board.nodes
  sizes_now = ap length cells_are ∙ nodes_kept value cells closures lemmas lemma_nodes tally kept_now

  pub seen_within : (number : ℕ) (node : Node) → slice_get board.nodes number ≡ Some node → number < length seen_cells
  seen_within number node at = let small = slice_get_within board.nodes number node at in let sizes = sizes_now in omega (arith, small, sizes)

  pub seen_few : length seen_cells < 2 ^ 32
  seen_few = let few = few_cells value cells closures lemmas lemma_nodes tally kept_now in let same = ap length cells_are in omega (arith, few, same)

  cell_parent : (number : ℕ) (node : Node) → slice_get board.nodes number ≡ Some node → (cell : Cell) × (slice_get seen_cells number ≡ Some cell) × (cell.parent ≡ parent_of node.path)
  cell_parent number node at =
      let (cell, is, stands) = cell_at value.journal closures board.kept 0 cells board.nodes kept_now.stand.nodes number node at in
      (cell, ap (λ (list : List Cell). slice_get list number) cells_are ∙ is, stands.parent)

  child_parent : (number parent : ℕ) (node : Node) → slice_get board.nodes number ≡ Some node → IsChildOf board.nodes number parent → parent_of node.path ≡ parent
  child_parent number parent node at child =
      ap parent_of (parent_path setting board facts_now number parent node at child) ∙ ap (λ path. parent_of (number ∷ path)) (facts_now.each parent child.node child.is).path

  pub parent_told : (number parent : ℕ) → option_map (λ (cell : Cell). cell.parent) (slice_get seen_cells number) ≡ Some parent → (up : ℕ) → IsChildOf board.nodes number up → up ≡ parent
  parent_told number parent told up child =
      let (node, at, path) = child_node setting board facts_now number up child in
      let (cell, is, own) = cell_parent number node at in
      sym (child_parent number up node at child) ∙ (sym own ∙ same_some cell.parent parent (sym (ap (option_map (λ (one : Cell). one.parent)) is) ∙ told))

  pub sibling_told : (number : ℕ) (node : Node) → slice_get board.nodes number ≡ Some node → (answer : Option ℕ) → answer ≡ sibling_in seen_cells number → HasSibling board.nodes number answer
  sibling_told number node at answer told = subst (HasSibling board.nodes number) (sym told) (by (slice_get board.nodes (number + 1)) refl)
    where
      here : (cell : Cell) × (slice_get seen_cells number ≡ Some cell) × (cell.parent ≡ parent_of node.path)
      here = cell_parent number node at

      beside_it : (other : Node) → slice_get board.nodes (number + 1) ≡ Some other → (parent : ℕ) → parent_of other.path ≡ parent → IsChildOf board.nodes (number + 1) parent
      beside_it other other_at parent same =
          let own = facts_now.each (number + 1) other other_at in
          up own.above own.path (subst (IsPath board.nodes) own.path own.rooted)
        where
          up : (above : List ℕ) → other.path ≡ (number + 1) ∷ above → IsPath board.nodes ((number + 1) ∷ above) → IsChildOf board.nodes (number + 1) parent
          up [] path root = absurd (omega (arith, root))
          up (over ∷ above) path rooted = subst (IsChildOf board.nodes (number + 1)) (sym (ap parent_of path) ∙ same) rooted.0

      compare : (other : Node) → slice_get board.nodes (number + 1) ≡ Some other → (cell : Cell) → cell.parent ≡ parent_of other.path → (same : Bool) → nat_eq cell.parent here.0.parent ≡ same
          → HasSibling board.nodes number (cond same (Some (number + 1)) None)
      compare other other_at cell own true e = (refl, λ parent child. beside_it other other_at parent (sym own ∙ (eqb-true cell.parent here.0.parent e ∙ (here.2 ∙ child_parent number parent node at child))))
      compare other other_at cell own false e = λ parent child next.
          let same : cell.parent ≡ here.0.parent = own ∙ (child_parent (number + 1) parent other other_at next ∙ (sym (child_parent number parent node at child) ∙ sym here.2)) in
          true≢false (sym (eq-eqb cell.parent here.0.parent same) ∙ e)

      by : (other : Option Node) → slice_get board.nodes (number + 1) ≡ other → HasSibling board.nodes number (sibling_in seen_cells number)
      by None past =
          let no_more = ap (λ (list : List Cell). slice_get list (number + 1)) cells_are ∙ no_cell value.journal closures board.kept 0 cells board.nodes kept_now.stand.nodes (number + 1) past in
          subst (HasSibling board.nodes number) (sym (ap (option_and_then (λ (other : Cell). option_and_then (λ (one : Cell). cond (nat_eq other.parent one.parent) (Some (number + 1)) None) (slice_get seen_cells number))) no_more))
          (λ parent child next. let (other, other_at, path) = child_node setting board facts_now (number + 1) parent next in some_none other (slice_get board.nodes (number + 1)) other_at past)
      by (Some other) other_at =
          let (cell, is, own) = cell_parent (number + 1) other other_at in
          subst (HasSibling board.nodes number)
          (sym (ap (option_and_then (λ (other : Cell). option_and_then (λ (one : Cell). cond (nat_eq other.parent one.parent) (Some (number + 1)) None) (slice_get seen_cells number))) is
          ∙ ap (option_and_then (λ (one : Cell). cond (nat_eq cell.parent one.parent) (Some (number + 1)) None)) here.1))
          (compare other other_at cell own (nat_eq cell.parent here.0.parent) refl)

  module _ (number : ℕ) (node : Node) (at : slice_get board.nodes number ≡ Some node) where
    child_told : (answer : Option ℕ) → answer ≡ option_and_then unclosed_first (slice_get seen_cells number) → unclosed_child node ≡ answer
    child_told answer told =
        sym (ap (option_and_then unclosed_child) at)
        ∙ (sym (seen_then value.journal closures board.kept unclosed_first unclosed_child (λ n cell one stands. ap₂ (λ closed first. cond closed None first) stands.closed (first_child_same value.journal closures board.kept n cell.settled one.state stands.settled)) 0 cells board.nodes kept_now.stand.nodes number)
        ∙ (sym (ap (λ (list : List Cell). option_and_then unclosed_first (slice_get list number)) cells_are) ∙ sym told))

    pub into_child : (answer : Option ℕ) → answer ≡ option_and_then unclosed_first (slice_get seen_cells number) → (first : ℕ) → answer ≡ Some first → GoesOn board (Some number) (Some first)
    into_child answer told first is =
        let (own, inst, state) = unclosed_parts node.own node.state first (child_told answer told ∙ is) in
        let climbed = replay_climbed setting board kept_now.problem (replay_kept value cells closures lemmas lemma_nodes tally kept_now) in
        on_child setting board facts_now number node at inst first state (some_children board.nodes node.own node.state inst first own state (climbed.climbed number node at))

    pub past_it : (answer : Option ℕ) → answer ≡ option_and_then unclosed_first (slice_get seen_cells number) → answer ≡ None → (next : Option ℕ) → GoesBehind board number next → GoesOn board (Some number) next
    past_it answer told is next behind = on_behind setting board facts_now number node at (child_told answer told ∙ is) next behind

  module _ (start number : ℕ) (up : IsUp board start number) where
    pub reached_within : number < length seen_cells
    reached_within = seen_within number up.here up.is

    pub reached_sibling : number ≢ 0 → (next : ℕ) → Some next ≡ sibling_in seen_cells number → GoesBehind board start (Some next)
    reached_sibling some next told = up_finds setting board facts_now start number up some next (sibling_told number up.here up.is (Some next) told)

    pub reached_parent : number ≢ 0 → None ≡ sibling_in seen_cells number → (parent : ℕ) → option_map (λ (cell : Cell). cell.parent) (slice_get seen_cells number) ≡ Some parent → IsUp board start parent × (parent < number)
    reached_parent some none parent told = up_goes setting board facts_now start number up some (sibling_told number up.here up.is None none) parent (parent_told number parent told)

    pub reached_root : number ≡ 0 → GoesBehind board start None
    reached_root root = up_ends setting board facts_now start (subst (IsUp board start) root up)

  pub way_up_begins : (start : ℕ) → start < length board.nodes → IsUp board start start
  way_up_begins start small = let (node, at) = there_is board.nodes start small in up_begins setting board facts_now start node at

  module _ (number : ℕ) (small : number < length board.nodes) where
    pub goes_into : (first : ℕ) → Some first ≡ option_and_then unclosed_first (slice_get seen_cells number) → GoesOn board (Some number) (Some first)
    goes_into first told = let (node, at) = there_is board.nodes number small in into_child number node at (Some first) told first refl

    pub goes_past : None ≡ option_and_then unclosed_first (slice_get seen_cells number) → (next : Option ℕ) → GoesBehind board number next → GoesOn board (Some number) next
    goes_past told next behind = let (node, at) = there_is board.nodes number small in past_it number node at None told refl next behind

  pub goes_from_root : GoesOn board None (Some 0)
  goes_from_root = on_root setting board facts_now

  pub goes_nowhere : (number : ℕ) → length board.nodes ≤ number → GoesOn board (Some number) None
  goes_nowhere number past = on_past setting board facts_now number past
