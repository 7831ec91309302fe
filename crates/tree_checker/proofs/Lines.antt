-- A walk over lines, and the trees whose preorder they are.
use Rattle.std.proofs.Common.{◌≡◌, ℕ, ◌<◌, zero, suc, List, [], ◌∷◌, ◌++◌, length, take, Some, slice_get, refl, sym, ap, subst, ◌∙◌, arith, append_assoc}
use Rattle.mg_word.specs.declared.form.Form.{Form}
use Rattle.tree_checker.specs.declared.doc.TreeLine.{TreeLine}
use Rattle.tree_checker.specs.Trees.{Trees, done, tree, preorder, Branch, split_by, conclusions_at, AreTrees, branches_at}
use Rattle.mg_meaning.specs.Folding.{Pair}
use Rattle.tree_checker.specs.Closing.{IsFine, Close}
use Rattle.tree_checker.proofs.Frames.{length-split_by}
use Rattle.tree_checker.proofs.Shapes.{beside, preorder-beside, AreTrees-split, Rest, branches_at-split}

module _ (forms : List Form) (lemmas : List Pair) where
  -- each line is fine where it stands, and afterwards these branches are left
  abbrev pub Reached : List Branch → List TreeLine → List Branch → Type 0
  Reached branches [] left = branches ≡ left
  Reached [] (line ∷ lines) left = ⊥
  Reached (branch ∷ branches) (line ∷ lines) left =
      IsFine forms lemmas branch line × Reached (split_by branch (conclusions_at forms line) ++ branches) lines left

  pub Reached-push : (branches : List Branch) (lines : List TreeLine) (branch : Branch) (left : List Branch) (line : TreeLine)
      → Reached branches lines (branch ∷ left) → IsFine forms lemmas branch line
      → Reached branches (lines ++ line ∷ []) (split_by branch (conclusions_at forms line) ++ left)
  Reached-push [] [] branch left line reached fine = let bad : ⊥ = cc in absurd bad
  Reached-push (first ∷ branches) [] branch left line reached fine =
      let head : first ≡ branch = cc in
      let tail : branches ≡ left = cc in
      rw (head, tail) (fine, refl)
  Reached-push [] (next ∷ lines) branch left line reached fine = absurd reached
  Reached-push (first ∷ branches) (next ∷ lines) branch left line reached fine =
      (reached.0, Reached-push (split_by first (conclusions_at forms next) ++ branches) lines branch left line reached.1 fine)

  -- trees that close from branches in a row split where these do
  pub record Parted (front back : List Branch) (trees : Trees) : Type 0 where
    pub first : Trees
    pub second : Trees
    pub closes_first : Close forms lemmas front first
    pub closes_second : Close forms lemmas back second
    pub same : preorder trees ≡ preorder first ++ preorder second

  pub Close-append : (front back : List Branch) (trees : Trees) → Close forms lemmas (front ++ back) trees → Parted front back trees
  Close-append [] back trees closes = record { first = done; second = trees; closes_first = tt; closes_second = closes; same = refl }
  Close-append (branch ∷ front) back done closes = absurd closes
  Close-append (branch ∷ front) back (tree line children rest) closes =
      let parts = Close-append front back rest closes.2 in
      record {
        first = tree line children parts.first;
        second = parts.second;
        closes_first = (closes.0, closes.1, parts.closes_first);
        closes_second = parts.closes_second;
        same = ap (λ lines. line ∷ preorder children ++ lines) parts.same
            ∙ sym (append_assoc (line ∷ preorder children) (preorder parts.first) (preorder parts.second));
      }

  pub record Closed (branches : List Branch) (lines : List TreeLine) : Type 0 where
    pub trees : Trees
    pub same : preorder trees ≡ lines
    pub closes : Close forms lemmas branches trees

  -- a walk that leaves no branch went over trees that close
  pub Reached-closed : (branches : List Branch) (lines : List TreeLine) → Reached branches lines [] → Closed branches lines
  Reached-closed [] [] reached = record { trees = done; same = refl; closes = tt }
  Reached-closed (branch ∷ branches) [] reached = let bad : ⊥ = cc in absurd bad
  Reached-closed [] (line ∷ lines) reached = absurd reached
  Reached-closed (branch ∷ branches) (line ∷ lines) reached =
      let below = split_by branch (conclusions_at forms line) in
      let closed = Reached-closed (below ++ branches) lines reached.1 in
      let parts = Close-append below branches closed.trees closed.closes in
      record {
        trees = tree line parts.first parts.second;
        same = ap (λ lines. line ∷ lines) (sym parts.same ∙ closed.same);
        closes = (reached.0, parts.closes_first, parts.closes_second);
      }

  pub Reached-rest : (branches : List Branch) (before : List TreeLine) (left : List Branch) (trees : Trees) (after : List TreeLine)
      → AreTrees forms (length branches) trees → preorder trees ≡ before ++ after → Reached branches before left → Rest forms left after
  Reached-rest branches [] left trees after shape same reached =
      record { trees = trees; shape = subst (λ b. AreTrees forms (length b) trees) reached shape; same = same }
  Reached-rest [] (line ∷ lines) left trees after shape same reached = absurd reached
  Reached-rest (branch ∷ branches) (line ∷ lines) left done after shape same reached = absurd shape
  Reached-rest (branch ∷ branches) (line ∷ lines) left (tree top children rest) after shape same reached =
      let head : top ≡ line = cc in
      let tail : preorder children ++ preorder rest ≡ lines ++ after = cc in
      Reached-rest (split_by branch (conclusions_at forms line) ++ branches) lines left (beside children rest) after
      (subst (λ l. AreTrees forms (length (split_by branch (conclusions_at forms l) ++ branches)) (beside children rest)) head
      (AreTrees-split forms branch branches top children rest shape))
      (preorder-beside children rest ∙ tail)
      reached.1

  -- the first branch that is left after i lines is that of the line at i
  pub Reached-branch : (branches : List Branch) (trees : Trees) (i : ℕ) (next : Branch) (left : List Branch) → AreTrees forms (length branches) trees
      → Reached branches (take i (preorder trees)) (next ∷ left) → slice_get (branches_at forms branches trees) i ≡ Some next
  Reached-branch [] done zero next left shape reached = let bad : ⊥ = cc in absurd bad
  Reached-branch [] done (suc i) next left shape reached = let bad : ⊥ = cc in absurd bad
  Reached-branch [] (tree line children rest) i next left shape reached = absurd shape
  Reached-branch (branch ∷ branches) done i next left shape reached = absurd shape
  Reached-branch (branch ∷ branches) (tree line children rest) zero next left shape reached = cc
  Reached-branch (branch ∷ branches) (tree line children rest) (suc i) next left shape reached =
      rw (← branches_at-split forms branch branches line children rest shape)
      (Reached-branch (split_by branch (conclusions_at forms line) ++ branches) (beside children rest) i next left
      (AreTrees-split forms branch branches line children rest shape)
      (rw preorder-beside reached.1))

  -- the lines that a walk went over are fine
  pub Reached-fine : (branches : List Branch) (trees : Trees) (i : ℕ) (left : List Branch) → AreTrees forms (length branches) trees
      → Reached branches (take i (preorder trees)) left
      → (k : ℕ) (branch : Branch) (line : TreeLine) → k < i → slice_get (branches_at forms branches trees) k ≡ Some branch → slice_get (preorder trees) k ≡ Some line
      → IsFine forms lemmas branch line
  Reached-fine branches trees zero left shape reached k branch line below branch_is line_is = absurd (omega arith)
  Reached-fine [] trees (suc i) left shape reached k branch line below branch_is line_is = let bad : ⊥ = cc in absurd bad
  Reached-fine (first ∷ branches) done (suc i) left shape reached k branch line below branch_is line_is = absurd shape
  Reached-fine (first ∷ branches) (tree top children rest) (suc i) left shape reached zero branch line below branch_is line_is =
      let same_branch : first ≡ branch = cc in
      let same_line : top ≡ line = cc in
      rw (← same_branch, ← same_line) reached.0
  Reached-fine (first ∷ branches) (tree top children rest) (suc i) left shape reached (suc k) branch line below branch_is line_is =
      Reached-fine (split_by first (conclusions_at forms top) ++ branches) (beside children rest) i left
      (AreTrees-split forms first branches top children rest shape)
      (rw preorder-beside reached.1) k branch line (omega arith)
      (rw (branches_at-split forms first branches top children rest shape) branch_is)
      (rw preorder-beside line_is)

  -- trees that close are gone over
  pub Close-reached : (front back : List Branch) (trees : Trees) (after : List TreeLine) (left : List Branch)
      → Close forms lemmas front trees → Reached back after left → Reached (front ++ back) (preorder trees ++ after) left
  Close-reached [] back done after left closes reached = reached
  Close-reached [] back (tree line children rest) after left closes reached = absurd closes
  Close-reached (branch ∷ front) back done after left closes reached = absurd closes
  Close-reached (branch ∷ front) back (tree line children rest) after left closes reached =
      let later = Close-reached front back rest after left closes.2 reached in
      let both = Close-reached (split_by branch (conclusions_at forms line)) (front ++ back) children (preorder rest ++ after) left closes.1 later in (
        closes.0,
        subst (λ lines. Reached (split_by branch (conclusions_at forms line) ++ (front ++ back)) lines left) (sym (append_assoc (preorder children) (preorder rest) after)) both,
      )

  pub AreTrees-closed : (branches : List Branch) (trees : Trees) → Close forms lemmas branches trees → AreTrees forms (length branches) trees
  AreTrees-closed [] done closes = tt
  AreTrees-closed [] (tree line children rest) closes = absurd closes
  AreTrees-closed (branch ∷ branches) done closes = absurd closes
  AreTrees-closed (branch ∷ branches) (tree line children rest) closes =
      let below = split_by branch (conclusions_at forms line) in
      (rw (← length-split_by branch (conclusions_at forms line)) (AreTrees-closed below children closes.1), AreTrees-closed branches rest closes.2)
