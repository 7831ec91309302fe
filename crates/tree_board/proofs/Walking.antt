-- The walk down the tree finds exactly the first open node in tree order.
use Rattle.std.proofs.Common.{◌≡◌, ◌≢◌, ◌↔◌, ℕ, zero, suc, ◌+◌, ◌<◌, ◌≤◌, List, [], ◌∷◌, drop, length, reverse, slice_get, Option, Some, None, refl, sym, ap, subst, ◌∙◌, ◌⊎◌, inl, inr, arith}
use Rattle.std.proofs.lemmas.Bool.{cases_eq}
use Rattle.std.specs.declared.cmp.Ordering.{Ordering}
use Rattle.std.specs.declared.cmp.Ordering.TheVariants.{Less, Equal, Greater}
use Rattle.std.specs.Ordering.{ordering_reverse}
use Rattle.std.specs.Cmp.{nat_cmp_total}
use Rattle.std.specs.Cmp.Lexicographic.{lists_total}
use Rattle.std.proofs.lemmas.Cmp.{tied_itself}
use Rattle.mg_word.specs.Facts.{IsProblem}
use Rattle.mg_word.specs.declared.lit.Lit.{Lit}
use Rattle.mg_word.specs.declared.form.Inst.{Inst}
use Rattle.tree_board.specs.Boards.{Board}
use Rattle.tree_board.specs.Facts.{IsAmong, IsChildOf, IsPath, IsBoard}
use Rattle.tree_board.specs.FirstOpen.{first_of, first_among, first_by, first_at, first_open_from, first_open}
use Rattle.tree_board.specs.Lawful.{IsReplay}
use Rattle.tree_board.specs.NodeStates.{NodeState, Open, Split, Rejected, Settled, Shut, Found, Covered, Heavy}
use Rattle.tree_board.specs.Nodes.{Node}
use Rattle.tree_board.specs.Settings.{Setting}
use Rattle.tree_board.specs.TreeOrder.{tree_cmp, IsFirstOpen}
use Rattle.tree_board.proofs.Places.{same_some, within}
use Rattle.tree_board.proofs.Below.{split_at, open_above_none}
use Rattle.tree_board.proofs.Covering.{root_above}
use Rattle.tree_board.proofs.Climbing.{child_path, parent_path}
use Rattle.tree_board.proofs.TreeOrder.{before_beside}
use Rattle.tree_board.proofs.OneWorker.{first_open_same}
use Rattle.tree_board.proofs.Replays.{replay_board}

-- a path that goes on below a node goes through one of its children
pub through_child : (nodes : List Node) (number : ℕ) (above : List ℕ) → IsPath nodes (number ∷ above) → (top : ℕ) → IsAmong above top → (child : ℕ) × IsChildOf nodes child top × IsAmong (number ∷ above) child
through_child nodes number [] path top bad = absurd bad
through_child nodes number (parent ∷ above) path top (inl same) = (number, subst (IsChildOf nodes number) same path.0, inl refl)
through_child nodes number (parent ∷ above) path top (inr later) = let (child, is, there) = through_child nodes parent above path.1 top later in (child, is, inr there)

pub not_less_turned : (a b : Node) → tree_cmp a b ≡ Less → tree_cmp b a ≡ Less → ⊥
not_less_turned a b one two = by (tree_cmp a b) (tree_cmp b a) ((lists_total nat_cmp_total).antisymm (reverse a.path) (reverse b.path)) one two
  where
    by : (r s : Ordering) → r ≡ ordering_reverse s → r ≡ Less → s ≡ Less → ⊥
    by Less Less e p q = cc
    by Less Equal e p q = cc
    by Less Greater e p q = cc
    by Equal s e p q = cc
    by Greater s e p q = cc

pub not_before_itself : (a : Node) → tree_cmp a a ≡ Less → ⊥
not_before_itself a e = let tie = tied_itself (lists_total nat_cmp_total) (reverse a.path) in let bad : ⊥ = cc in bad

module _ (setting : Setting) (board : Board) (facts : IsBoard setting board) where
  -- an open node at the top or below it
  record IsOpenBelow (top k : ℕ) (node : Node) : Type 0 where
    pub is : slice_get board.nodes k ≡ Some node
    pub opened : node.state ≡ Open
    pub below : IsAmong node.path top

  -- it is open there, and no open one there is before it
  record IsFirstBelow (top k : ℕ) : Type 0 where
    pub node : Node
    pub own : IsOpenBelow top k node
    pub first : (m : ℕ) (other : Node) → IsOpenBelow top m other → tree_cmp other node ≢ Less

  -- what a walk from a node answers
  record Walks (top : ℕ) (answer : Option ℕ) : Type 0 where
    pub some : (k : ℕ) → answer ≡ Some k → IsFirstBelow top k
    pub none : answer ≡ None → (m : ℕ) (other : Node) → IsOpenBelow top m other → ⊥

  -- an open node below one of the children from there on
  record IsUnder (first size k : ℕ) (node : Node) : Type 0 where
    pub child : ℕ
    pub from : first ≤ child
    pub within : child < first + size
    pub own : IsOpenBelow child k node

  record IsFirstUnder (from size k : ℕ) : Type 0 where
    pub node : Node
    pub under : IsUnder from size k node
    pub first : (m : ℕ) (other : Node) → IsUnder from size m other → tree_cmp other node ≢ Less

  record WalksUnder (first size : ℕ) (answer : Option ℕ) : Type 0 where
    pub some : (k : ℕ) → answer ≡ Some k → IsFirstUnder first size k
    pub none : answer ≡ None → (m : ℕ) (other : Node) → IsUnder first size m other → ⊥

  -- of the children of one node: all below an earlier one are before all below a later one
  abbrev AreSiblings : ℕ → ℕ → Type 0
  AreSiblings first size = (i j a b : ℕ) (one two : Node) → first ≤ i → i < j → j < first + size → IsOpenBelow i a one → IsOpenBelow j b two → tree_cmp one two ≡ Less

  none_some' : (k : ℕ) → None ≡ Some k → ⊥
  none_some' k e = cc

  walk_children : (go : ℕ → Option ℕ) (first : ℕ) (conclusions : List Lit) → AreSiblings first (length conclusions) → ((child : ℕ) → first ≤ child → child < first + length conclusions → Walks child (go child)) → WalksUnder first (length conclusions) (first_among go first conclusions)
  walk_children go first [] siblings each = record {
    some = λ k e. absurd (none_some' k e);
    none = λ e m other under. omega (arith, under.from, under.within);
  }
  walk_children go first (lit ∷ more) siblings each =
      by (go first) (each first (omega arith) (omega arith))
      (walk_children go (suc first) more (λ i j a b one two from less small p q. siblings i j a b one two (omega (arith, from)) less (omega (arith, small)) p q) (λ child from small. each child (omega (arith, from)) (omega (arith, small))))
    where
      -- what is under these is below the first of them or under the rest
      narrow : (m : ℕ) (other : Node) → IsUnder first (length (lit ∷ more)) m other → IsOpenBelow first m other ⊎ IsUnder (suc first) (length more) m other
      narrow m other under = elim (cases_eq under.child first) [
        | inl same ↦ inl (subst (λ child. IsOpenBelow child m other) same under.own)
        | inr apart ↦ inr (record { child = under.child; from = omega (arith, under.from, apart); within = omega (arith, under.within); own = under.own })
      ]

      by : (here : Option ℕ) → Walks first here → WalksUnder (suc first) (length more) (first_among go (suc first) more) → WalksUnder first (length (lit ∷ more)) (first_of here (first_among go (suc first) more))
      by (Some k) walks rest = record {
        some = λ n e.
            let own = walks.some n e in
            record {
              node = own.node;
              under = record { child = first; from = omega arith; within = omega arith; own = own.own };
              first = λ m other under less. elim (narrow m other under) [
                | inl here ↦ own.first m other here less
                | inr later ↦ not_less_turned own.node other (siblings first later.child n m own.node other (omega arith) (omega (arith, later.from)) (omega (arith, later.within)) own.own later.own) less
              ];
            };
        none = λ e. absurd (none_some' k (sym e));
      }
      by None walks rest = record {
        some = λ n e.
            let own = rest.some n e in
            record {
              node = own.node;
              under = record { child = own.under.child; from = (let low = own.under.from in omega (arith, low)); within = (let high = own.under.within in omega (arith, high)); own = own.under.own };
              first = λ m other under less. elim (narrow m other under) [
                | inl here ↦ walks.none refl m other here
                | inr later ↦ own.first m other later less
              ];
            };
        none = λ e m other under. elim (narrow m other under) [
          | inl here ↦ walks.none refl m other here
          | inr later ↦ rest.none e m other later
        ];
      }

  -- a node that is neither open nor split has nothing open at it or below it
  dead_end : (number : ℕ) (node : Node) → slice_get board.nodes number ≡ Some node → ((inst : Inst) (first : ℕ) → node.state ≡ Split inst first → ⊥) → (node.state ≡ Open → ⊥) → Walks number None
  dead_end number node at unsplit unopened = record {
    some = λ k e. absurd (none_some' k e);
    none = λ e m other open'.
        let own = facts.each m other open'.is in
        elim (subst (λ path. IsAmong path number) own.path open'.below) [
          | inl same ↦ unopened (ap (λ (n : Node). n.state) (same_some node other (sym at ∙ (ap (slice_get board.nodes) (sym same) ∙ open'.is))) ∙ open'.opened)
          | inr later ↦
              let (child, is, there) = through_child board.nodes m own.above (subst (IsPath board.nodes) own.path own.rooted) number later in
              unsplit is.inst is.first (ap (λ (n : Node). n.state) (same_some node is.node (sym at ∙ is.is)) ∙ is.state)
        ];
  }

  siblings_of : (number : ℕ) (node : Node) (inst : Inst) (first : ℕ) → slice_get board.nodes number ≡ Some node → node.state ≡ Split inst first → AreSiblings first (length inst.conclusions)
  siblings_of number node inst first at state i j a b one two from less small p q =
      let own = split_at setting board facts.each number node inst first at state in
      let (x, x_at, x_path) = child_path board.nodes first node.path node.lits node.barred inst.conclusions own.children i from (omega (arith, less, small)) in
      let (y, y_at, y_path) = child_path board.nodes first node.path node.lits node.barred inst.conclusions own.children j (omega (arith, from, less)) small in
      before_beside setting board facts a b i j one two x y p.is q.is x_at y_at (ap (drop 1) x_path ∙ sym (ap (drop 1) y_path)) less p.below q.below

  walk_node : (number : ℕ) (node : Node) → slice_get board.nodes number ≡ Some node → (go : ℕ → Option ℕ) → ((child : ℕ) → number < child → child < length board.nodes → Walks child (go child)) → (state : NodeState) → node.state ≡ state → Walks number (first_by go number state)
  walk_node number node at go each Open is = record {
    some = λ k e.
        let same : number ≡ k = same_some number k e in
        record {
          node = node;
          own = record { is = ap (slice_get board.nodes) (sym same) ∙ at; opened = is; below = subst (λ path. IsAmong path number) (sym (facts.each number node at).path) (inl refl) };
          first = λ m other open' less. elim (cases_eq m number) [
            | inl here ↦ not_before_itself node (subst (λ (n : Node). tree_cmp n node ≡ Less) (same_some other node (sym open'.is ∙ (ap (slice_get board.nodes) here ∙ at))) less)
            | inr apart ↦ open_above_none setting board facts.each m other open'.is number node at is apart open'.below
          ];
        };
    none = λ e. absurd (none_some' number (sym e));
  }
  walk_node number node at go each (Split inst first) is =
      let own = split_at setting board facts.each number node inst first at is in
      let walks = walk_children go first inst.conclusions (siblings_of number node inst first at is) (λ child from small.
      let (x, x_at, x_path) = child_path board.nodes first node.path node.lits node.barred inst.conclusions own.children child from small in
      each child (omega (arith, own.later, from)) (within board.nodes child x x_at)) in
      record {
        some = λ k e. let found = walks.some k e in record { node = found.node; own = down inst first is k found.node found.under; first = λ m other open' less. found.first m other (up inst first is m other open') less };
        none = λ e m other open'. walks.none e m other (up inst first is m other open');
      }
    where
      -- what is below a child is below the node
      above_child : (m : ℕ) (above : List ℕ) → IsPath board.nodes (m ∷ above) → (child : ℕ) → IsAmong (m ∷ above) child → (x : Node) → slice_get board.nodes child ≡ Some x → x.path ≡ child ∷ node.path → (y : Node) → slice_get board.nodes m ≡ Some y → y.path ≡ m ∷ above → IsAmong (m ∷ above) number
      above_child m above path child (inl same) x x_at x_path y y_at y_path =
          let nodes_same : y ≡ x = same_some y x (sym y_at ∙ (ap (slice_get board.nodes) same ∙ x_at)) in
          subst (λ all. IsAmong all number) (sym x_path ∙ (ap (λ (n : Node). n.path) (sym nodes_same) ∙ y_path)) (inr (subst (λ all. IsAmong all number) (sym (facts.each number node at).path) (inl refl)))
      above_child m [] path child (inr bad) x x_at x_path y y_at y_path = absurd bad
      above_child m (parent ∷ above) path child (inr later) x x_at x_path y y_at y_path =
          let child_is = path.0 in
          let own = parent_path setting board facts m parent y y_at child_is in
          inr (above_child parent above path.1 child later x x_at x_path child_is.node child_is.is (tails m m child_is.node.path (parent ∷ above) (sym own ∙ y_path)))
        where
          tails : (a b : ℕ) (xs ys : List ℕ) → a ∷ xs ≡ b ∷ ys → xs ≡ ys
          tails a b xs ys e = cc

      through : (m : ℕ) (y : Node) → slice_get board.nodes m ≡ Some y → (child : ℕ) → IsAmong y.path child → (x : Node) → slice_get board.nodes child ≡ Some x → x.path ≡ child ∷ node.path → IsAmong y.path number
      through m y y_at child below x x_at x_path =
          let own = facts.each m y y_at in
          subst (λ all. IsAmong all number) (sym own.path) (above_child m own.above (subst (IsPath board.nodes) own.path own.rooted) child (subst (λ all. IsAmong all child) own.path below) x x_at x_path y y_at own.path)

      -- what is under the children is below the node
      down : (inst : Inst) (first : ℕ) → node.state ≡ Split inst first → (m : ℕ) (other : Node) → IsUnder first (length inst.conclusions) m other → IsOpenBelow number m other
      down inst first is m other under =
          let own = split_at setting board facts.each number node inst first at is in
          let (x, x_at, x_path) = child_path board.nodes first node.path node.lits node.barred inst.conclusions own.children under.child under.from under.within in
          record { is = under.own.is; opened = under.own.opened; below = through m other under.own.is under.child under.own.below x x_at x_path }

      split_parts : (i j : Inst) (a b : ℕ) → Split i a ≡ Split j b → (i ≡ j) × (a ≡ b)
      split_parts i j a b e = (cc, cc)

      -- what is open below the node is below one of its children
      up : (inst : Inst) (first : ℕ) → node.state ≡ Split inst first → (m : ℕ) (other : Node) → IsOpenBelow number m other → IsUnder first (length inst.conclusions) m other
      up inst first is m other open' =
          let own = facts.each m other open'.is in
          elim (subst (λ path. IsAmong path number) own.path open'.below) [
            | inl same ↦
                let nodes_same : node ≡ other = same_some node other (sym at ∙ (ap (slice_get board.nodes) (sym same) ∙ open'.is)) in
                let bad : Split inst first ≡ Open = sym is ∙ (ap (λ (n : Node). n.state) nodes_same ∙ open'.opened) in
                absurd (let no_way : ⊥ = cc in no_way)
            | inr later ↦
                let (child, child_is, there) = through_child board.nodes m own.above (subst (IsPath board.nodes) own.path own.rooted) number later in
                let nodes_same : child_is.node ≡ node = same_some child_is.node node (sym child_is.is ∙ at) in
                let parts = split_parts child_is.inst inst child_is.first first (sym child_is.state ∙ (ap (λ (n : Node). n.state) nodes_same ∙ is)) in
                let sizes : length child_is.inst.conclusions ≡ length inst.conclusions = ap (λ (x : Inst). length x.conclusions) parts.0 in
                record {
                  child = child;
                  from = (let low = child_is.from in omega (arith, low, parts.1));
                  within = (let high = child_is.below in omega (arith, high, parts.1, sizes));
                  own = record { is = open'.is; opened = open'.opened; below = subst (λ path. IsAmong path child) (sym own.path) there };
                }
          ]
  walk_node number node at go each (Rejected inst) is = dead_end number node at (λ other first e. absurd (let bad : ⊥ = cc in bad)) (λ e. let bad : ⊥ = cc in bad)
  walk_node number node at go each (Settled lemma) is = dead_end number node at (λ other first e. absurd (let bad : ⊥ = cc in bad)) (λ e. let bad : ⊥ = cc in bad)
  walk_node number node at go each (Shut closure) is = dead_end number node at (λ other first e. absurd (let bad : ⊥ = cc in bad)) (λ e. let bad : ⊥ = cc in bad)
  walk_node number node at go each Found is = dead_end number node at (λ other first e. absurd (let bad : ⊥ = cc in bad)) (λ e. let bad : ⊥ = cc in bad)
  walk_node number node at go each (Covered cover) is = dead_end number node at (λ other first e. absurd (let bad : ⊥ = cc in bad)) (λ e. let bad : ⊥ = cc in bad)
  walk_node number node at go each (Heavy inst) is = dead_end number node at (λ other first e. absurd (let bad : ⊥ = cc in bad)) (λ e. let bad : ⊥ = cc in bad)

  walk : (fuel number : ℕ) → length board.nodes ≤ number + fuel → number < length board.nodes → (node : Node) → slice_get board.nodes number ≡ Some node → Walks number (first_open_from board.nodes fuel number)
  unfolding first_open_from
  walk zero number far small node at = absurd (omega (arith, far, small))
  walk (suc fuel) number far small node at =
      subst (λ one. Walks number (first_at (λ n. first_open_from board.nodes fuel n) number one)) (sym at)
      (walk_node number node at (λ n. first_open_from board.nodes fuel n) (λ child later inside. let (x, x_at) = get_there board.nodes child inside in walk fuel child (omega (arith, far, later)) inside x x_at) node.state refl)
    where
      get_there : (nodes : List Node) (k : ℕ) → k < length nodes → (x : Node) × (slice_get nodes k ≡ Some x)
      get_there [] k inside = absurd (omega arith)
      get_there (first ∷ nodes) zero inside = (first, refl)
      get_there (first ∷ nodes) (suc k) inside = get_there nodes k (omega arith)

  -- the root is above all
  below_root' : (k : ℕ) (node : Node) → slice_get board.nodes k ≡ Some node → IsAmong node.path 0
  below_root' k node at = let own = facts.each k node at in subst (λ path. IsAmong path 0) (sym own.path) (root_above board.nodes k own.above (subst (IsPath board.nodes) own.path own.rooted))

  pub walk_finds_first : (number : ℕ) → first_open board ≡ Some number ↔ IsFirstOpen board number
  walk_finds_first number =
      let (root, at, path, lits, barred) = facts.root in
      let walks = walk (length board.nodes) 0 (omega arith) (within board.nodes 0 root at) root at in (
        (λ e. found walks number e),
        (λ first. by (first_open board) refl walks first),
      )
    where
      found : Walks 0 (first_open board) → (k : ℕ) → first_open board ≡ Some k → IsFirstOpen board k
      found walks k e =
          let own = walks.some k e in
          record { node = own.node; is = own.own.is; opened = own.own.opened; first = λ m other other_at opened. own.first m other (record { is = other_at; opened = opened; below = below_root' m other other_at }) }

      by : (answer : Option ℕ) → first_open board ≡ answer → Walks 0 (first_open board) → IsFirstOpen board number → answer ≡ Some number
      by None e walks first = absurd (walks.none e number first.node (record { is = first.is; opened = first.opened; below = below_root' number first.node first.is }))
      by (Some k) e walks first = ap Some (first_open_same setting board facts k number (found walks k e) first)

-- where the walk finds none, no node is open
pub walk_none : (setting : Setting) (board : Board) → IsBoard setting board → first_open board ≡ None → (k : ℕ) (node : Node) → slice_get board.nodes k ≡ Some node → node.state ≡ Open → ⊥
walk_none setting board facts e k node at opened =
    let (root, root_at, path, lits, barred) = facts.root in
    (walk setting board facts (length board.nodes) 0 (omega arith) (within board.nodes 0 root root_at) root root_at).none e k node (record { is = at; opened = opened; below = below_root' setting board facts k node at })

pub walk_first : (setting : Setting) (board : Board) → IsProblem setting.problem → IsReplay setting board → (number : ℕ) → first_open board ≡ Some number ↔ IsFirstOpen board number
walk_first setting board real replay = walk_finds_first setting board (replay_board setting board real replay)
