-- The lines of a closed node are those of a tree that closes the branch of its lemma.
use Rattle.std.proofs.Common.{◌≡◌, ℕ, zero, suc, ◌+◌, ◌<◌, ◌≤◌, List, [], ◌∷◌, ◌++◌, length, map, slice_get, Option, Some, None, refl, sym, ap, ap₂, subst, ◌∙◌, inr, arith}
use Rattle.std.proofs.lemmas.List.{append-nil}
use Rattle.std.specs.List.{flat_map}
use Rattle.mg_word.specs.Words.{numbered}
use Rattle.mg_word.specs.Sets.{with_lit}
use Rattle.mg_word.specs.declared.lit.Lit.{Lit}
use Rattle.mg_word.specs.declared.form.Form.{Form}
use Rattle.mg_meaning.specs.Folding.{Pair, rejecting}
use Rattle.case_split.specs.declared.child.Closure.{Closure}
use Rattle.case_split.specs.declared.child.Closure.TheVariants.{Clash as ClashAtOnce, Barred as BarredAtOnce}
use Rattle.branch_lemmas.specs.Leaves.{lemma_of}
use Rattle.tree_checker.specs.Closing.{Close, Closes}
use Rattle.tree_checker.specs.Laws.{own_branch}
use Rattle.tree_checker.specs.Trees.{Trees, done, tree, preorder, Branch}
use Rattle.tree_checker.specs.declared.doc.TreeLine.{TreeLine}
use Rattle.tree_checker.specs.declared.doc.TreeLine.TheVariants.{Form as FormLine, By}
use Rattle.tree_checker.proofs.Shapes.{beside, preorder-beside}
use Rattle.tree_checker.proofs.OwnBranches.{fold_closes, rejection_closes, clash_closes, bar_closes, lemma_closes}
use Rattle.tree_board.specs.Boards.{Board, own_of, pair_at}
use Rattle.tree_board.specs.Closings.{pairs_at}
use Rattle.tree_board.specs.Facts.{HasChildren, IsAmong, IsBoard, StateHolds}
use Rattle.tree_board.specs.NodeStates.{NodeState, Open, Split, Rejected, Settled, Shut, Found, Covered, Heavy}
use Rattle.tree_board.specs.Nodes.{Node}
use Rattle.tree_board.specs.Settings.{Setting}
use Rattle.tree_board.proofs.Growth.{cons_pair_parts}
use Rattle.tree_board.proofs.Places.{same_some, within}
use Rattle.tree_board.proofs.Settling.{none_some}
use Rattle.board_tree.specs.Used.{new_number}
use Rattle.board_tree.specs.Lines.{closure_line, line_of, numbers_from, kids_of, name_of, before, in_place, by_name, lines_from, lines_within, lines_of}

module _ (forms : List Form) (lemmas : List Pair) where
  -- trees that close some branches, and those beside them the branches behind
  Close-beside : (front back : List Branch) (trees after : Trees) → Close forms lemmas front trees → Close forms lemmas back after → Close forms lemmas (front ++ back) (beside trees after)
  Close-beside [] back done after closed further = further
  Close-beside [] back (tree line children rest) after closed further = absurd closed
  Close-beside (branch ∷ front) back done after closed further = absurd closed
  Close-beside (branch ∷ front) back (tree line children rest) after (fine, below, beyond) further = (fine, below, Close-beside front back rest after beyond further)

  -- the lines are trees that close these branches
  pub record CloseAll (branches : List Branch) (lines : List TreeLine) : Type 0 where
    pub trees : Trees
    pub same : preorder trees ≡ lines
    pub closed : Close forms lemmas branches trees

  close_more : (branch : Branch) (branches : List Branch) (lines more : List TreeLine) → Closes forms lemmas branch lines → CloseAll branches more → CloseAll (branch ∷ branches) (lines ++ more)
  close_more branch branches lines more (one, one_same, one_closed) further = record {
    trees = beside one further.trees;
    same = preorder-beside one further.trees ∙ ap₂ (λ (xs ys : List TreeLine). xs ++ ys) one_same further.same;
    closed = Close-beside (branch ∷ []) branches one further.trees one_closed further.closed;
  }

  -- the line of a child that is closed at once
  closure_closes : (closure : Closure) → Closes forms lemmas (own_branch (lemma_of closure)) (closure_line closure ∷ [])
  closure_closes (ClashAtOnce lit) = (tree (closure_line (ClashAtOnce lit)) done done, refl, clash_closes forms lemmas lit)
  closure_closes (BarredAtOnce lit) = (tree (closure_line (BarredAtOnce lit)) done done, refl, bar_closes forms lemmas lit)

module _ (setting : Setting) (board : Board) (facts : IsBoard setting board) (top : ℕ) (lemmas : List Pair) where
  abbrev forms : List Form
  forms = setting.problem.forms

  -- what settled a node of this tree has its new number
  abbrev pub SettledThere : Type 0
  SettledThere = (number : ℕ) (node : Node) (lemma : ℕ) (pair : Pair) → slice_get board.nodes number ≡ Some node → IsAmong node.path top → node.state ≡ Settled lemma → pair_at board.kept lemma ≡ Some pair → numbered lemmas (new_number board.nodes lemma) ≡ Some pair

  -- a node below the top that is named has its own lemma there
  abbrev pub NamedThere : Type 0
  NamedThere = (number : ℕ) (node : Node) (pair : Pair) (new : ℕ) → slice_get board.nodes number ≡ Some node → IsAmong node.path top → top < number → node.own ≡ Some pair → name_of board number ≡ Some new → numbered lemmas new ≡ Some pair

  -- the lines of each node behind that one close the branch of its lemma
  abbrev CloseBehind : ℕ → (ℕ → List TreeLine) → Type 0
  CloseBehind from below = (number : ℕ) (node : Node) (pair : Pair) → from < number → slice_get board.nodes number ≡ Some node → IsAmong node.path top → node.own ≡ Some pair → Closes forms lemmas (own_branch pair) (below number)

  children_close : (from : ℕ) (below : ℕ → List TreeLine) → CloseBehind from below → (above : List ℕ) → IsAmong above top → (held bars conclusions : List Lit) (first : ℕ) → from < first → HasChildren board.nodes first above held bars conclusions
      → (pairs : List Pair) → pairs_at board.nodes first conclusions ≡ Some pairs → (length pairs ≡ length conclusions) × CloseAll forms lemmas (map own_branch pairs) (flat_map below (numbers_from first conclusions))
  children_close from below closes above under held bars [] first later children pairs is =
      let none : [] ≡ pairs = same_some [] pairs is in
      subst (λ (all : List Pair). (length all ≡ 0) × CloseAll forms lemmas (map own_branch all) []) none (refl, record { trees = done; same = refl; closed = tt })
  children_close from below closes above under held bars (lit ∷ more) first later (child, children) pairs is =
      let (pair, others, own, other_pairs, all) = cons_pair_parts (own_of (slice_get board.nodes first)) (pairs_at board.nodes (suc first) more) pairs is in
      let (size, further) = children_close from below closes above under held (with_lit bars lit) more (suc first) (omega (arith, later)) children others other_pairs in
      let child_own : child.node.own ≡ Some pair = ap own_of (sym child.is) ∙ own in
      let path : IsAmong child.node.path top = subst (λ path. IsAmong path top) (sym child.path) (inr under) in
      let one = closes first child.node pair later child.is path child_own in
      subst (λ (list : List Pair). (length list ≡ suc (length more)) × CloseAll forms lemmas (map own_branch list) (below first ++ flat_map below (numbers_from (suc first) more))) (sym all)
      (ap suc size, close_more forms lemmas (own_branch pair) (map own_branch others) (below first) (flat_map below (numbers_from (suc first) more)) one further)

  module _ (settled_there : SettledThere) where
    -- a node in place
    place_closes : (number : ℕ) (node : Node) (pair : Pair) → slice_get board.nodes number ≡ Some node → IsAmong node.path top → node.own ≡ Some pair → (below : ℕ → List TreeLine) → CloseBehind number below
        → (state : NodeState) → node.state ≡ state → StateHolds setting board number node state → Closes forms lemmas (own_branch pair) (before (line_of board.nodes state) (flat_map below (kids_of state)))
    place_closes number node pair at under own below closes (Split inst first) is holds =
        let (pairs, pairs_is, fold) = holds.folded pair own in
        let (size, kids) = children_close number below closes node.path under node.lits node.barred inst.conclusions first holds.later holds.children pairs pairs_is in
        subst (λ one. Closes forms lemmas (own_branch one) (FormLine inst.form inst.subst ∷ flat_map below (numbers_from first inst.conclusions))) (sym fold) (
          tree (FormLine inst.form inst.subst) kids.trees done,
          ap (λ lines. FormLine inst.form inst.subst ∷ lines) (append-nil (preorder kids.trees) ∙ kids.same),
          fold_closes setting.problem lemmas inst pairs kids.trees holds.least.instance size kids.closed,
        )
    place_closes number node pair at under own below closes (Rejected inst) is (least, none, used, has) =
        let same : rejecting inst ≡ pair = same_some (rejecting inst) pair (sym has ∙ own) in
        subst (λ one. Closes forms lemmas (own_branch one) (FormLine inst.form inst.subst ∷ [])) same
        (tree (FormLine inst.form inst.subst) done done, refl, rejection_closes setting.problem lemmas inst least.instance none)
    place_closes number node pair at under own below closes (Settled lemma) is (other, there, has) =
        let same : other ≡ pair = same_some other pair (sym has ∙ own) in
        let new = new_number board.nodes lemma in
        (tree (By new) done done, refl, lemma_closes forms lemmas new pair (settled_there number node lemma pair at under is (there ∙ ap Some same)))
    place_closes number node pair at under own below closes (Shut closure) is (shut, has) =
        let same : lemma_of closure ≡ pair = same_some (lemma_of closure) pair (sym has ∙ own) in
        subst (λ one. Closes forms lemmas (own_branch one) (closure_line closure ∷ [])) same (closure_closes forms lemmas closure)
    place_closes number node pair at under own below closes Open is none = absurd (none_some pair (sym none ∙ own))
    place_closes number node pair at under own below closes Found is (saturated, none) = absurd (none_some pair (sym none ∙ own))
    place_closes number node pair at under own below closes (Covered by) is (covered, none) = absurd (none_some pair (sym none ∙ own))
    place_closes number node pair at under own below closes (Heavy inst) is (least, heavy, none) = absurd (none_some pair (sym none ∙ own))

    here_closes : (number : ℕ) (node : Node) (pair : Pair) → slice_get board.nodes number ≡ Some node → IsAmong node.path top → node.own ≡ Some pair → (below : ℕ → List TreeLine) → CloseBehind number below
        → Closes forms lemmas (own_branch pair) (in_place board below (slice_get board.nodes number))
    here_closes number node pair at under own below closes =
        subst (λ one. Closes forms lemmas (own_branch pair) (in_place board below one)) (sym at) (place_closes number node pair at under own below closes node.state refl (facts.each number node at).state)

    module _ (named_there : NamedThere) where
      -- a node below the top, in place or by its lemma
      node_closes : (fuel number : ℕ) (node : Node) (pair : Pair) → length board.nodes ≤ number + fuel → top < number → slice_get board.nodes number ≡ Some node → IsAmong node.path top → node.own ≡ Some pair → Closes forms lemmas (own_branch pair) (lines_from board fuel number)
      unfolding lines_from
      node_closes zero number node pair far later at under own = absurd (omega (arith, far, within board.nodes number node at))
      node_closes (suc fuel) number node pair far later at under own =
          by (name_of board number) refl (λ k one other behind is_at path own_is. node_closes fuel k one other (omega (arith, far, behind)) (omega (arith, later, behind)) is_at path own_is)
        where
          by : (name : Option ℕ) → name_of board number ≡ name → CloseBehind number (λ n. lines_from board fuel n) → Closes forms lemmas (own_branch pair) (by_name board (λ n. lines_from board fuel n) number name)
          by (Some new) is go = (tree (By new) done done, refl, lemma_closes forms lemmas new pair (named_there number node pair new at under later own is))
          by None is go = here_closes number node pair at under own (λ n. lines_from board fuel n) go

      -- the tree of the node at the top
      pub top_closes : (node : Node) (pair : Pair) → slice_get board.nodes top ≡ Some node → IsAmong node.path top → node.own ≡ Some pair → Closes forms lemmas (own_branch pair) (lines_of board top)
      top_closes node pair at under own = here_closes top node pair at under own (λ n. lines_within board n)
          (λ k one other behind is_at path own_is. node_closes (length board.nodes) k one other (omega arith) behind is_at path own_is)
