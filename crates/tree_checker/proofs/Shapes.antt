-- The trees that lines show, and the branches at their lines.
use Rattle.std.proofs.Common.{◌≡◌, ℕ, ◌+◌, zero, suc, List, [], ◌∷◌, ◌++◌, length, refl, sym, ap, subst, ◌∙◌, arith, append_assoc}
use Rattle.std.proofs.lemmas.List.{length-append}
use Rattle.mg_word.specs.declared.form.Form.{Form}
use Rattle.tree_checker.specs.declared.doc.TreeLine.{TreeLine}
use Rattle.tree_checker.specs.Trees.{Trees, done, tree, preorder, Branch, split_by, conclusions_at, AreTrees, branches_at}
use Rattle.tree_checker.proofs.Frames.{length-split_by}

-- trees in a row, and those after them
abbrev pub beside : Trees → Trees → Trees
beside done after = after
beside (tree line children rest) after = tree line children (beside rest after)

pub preorder-beside : (trees after : Trees) → preorder (beside trees after) ≡ preorder trees ++ preorder after
preorder-beside done after = refl
preorder-beside (tree line children rest) after =
    ap (λ lines. line ∷ preorder children ++ lines) (preorder-beside rest after)
    ∙ sym (append_assoc (line ∷ preorder children) (preorder rest) (preorder after))

module _ (forms : List Form) where
  pub AreTrees-beside : (n m : ℕ) (trees after : Trees) → AreTrees forms n trees → AreTrees forms m after → AreTrees forms (n + m) (beside trees after)
  AreTrees-beside zero m done after shape shape_after = let none : 0 + m ≡ m = omega arith in rw none shape_after
  AreTrees-beside zero m (tree line children rest) after shape shape_after = absurd shape
  AreTrees-beside (suc n) m done after shape shape_after = absurd shape
  AreTrees-beside (suc n) m (tree line children rest) after shape shape_after =
      let next : suc n + m ≡ suc (n + m) = omega arith in
      rw next (shape.0, AreTrees-beside n m rest after shape.1 shape_after)

  -- the trees below the first top line, beside those after it, go with the branches that its split leaves
  pub AreTrees-split : (branch : Branch) (branches : List Branch) (line : TreeLine) (children rest : Trees)
      → AreTrees forms (suc (length branches)) (tree line children rest)
      → AreTrees forms (length (split_by branch (conclusions_at forms line) ++ branches)) (beside children rest)
  AreTrees-split branch branches line children rest shape =
      let both = AreTrees-beside (length (conclusions_at forms line)) (length branches) children rest shape.0 shape.1 in
      rw (length-append, length-split_by) both

  -- what a walk has not gone over yet is trees for the branches that are left
  pub record Rest (left : List Branch) (after : List TreeLine) : Type 0 where
    pub trees : Trees
    pub shape : AreTrees forms (length left) trees
    pub same : preorder trees ≡ after

  -- where no line is left, no branch is
  pub none_left : (left : List Branch) → Rest left [] → left ≡ []
  none_left [] rest = refl
  none_left (branch ∷ left) rest = absurd (by rest.trees rest.shape rest.same)
    where
      by : (trees : Trees) → AreTrees forms (suc (length left)) trees → preorder trees ≡ [] → ⊥
      by done shape same = shape
      by (tree line children more) shape same = cc

  -- where a line is left, a branch is
  pub some_left : (left : List Branch) (line : TreeLine) (lines : List TreeLine) → Rest left (line ∷ lines) → left ≡ [] → ⊥
  some_left left line lines rest none = by rest.trees (subst (λ b. AreTrees forms (length b) rest.trees) none rest.shape) rest.same
    where
      by : (trees : Trees) → AreTrees forms 0 trees → preorder trees ≡ line ∷ lines → ⊥
      by done shape same = cc
      by (tree top children more) shape same = shape

  pub branches_at-beside : (front back : List Branch) (trees after : Trees) → AreTrees forms (length front) trees
      → branches_at forms (front ++ back) (beside trees after) ≡ branches_at forms front trees ++ branches_at forms back after
  branches_at-beside [] back done after shape = refl
  branches_at-beside [] back (tree line children rest) after shape = absurd shape
  branches_at-beside (branch ∷ front) back done after shape = absurd shape
  branches_at-beside (branch ∷ front) back (tree line children rest) after shape =
      let below = branches_at forms (split_by branch (conclusions_at forms line)) children in
      ap (λ branches. branch ∷ below ++ branches) (branches_at-beside front back rest after shape.1)
      ∙ sym (append_assoc (branch ∷ below) (branches_at forms front rest) (branches_at forms back after))

  pub branches_at-split : (branch : Branch) (branches : List Branch) (line : TreeLine) (children rest : Trees)
      → AreTrees forms (suc (length branches)) (tree line children rest)
      → branches_at forms (split_by branch (conclusions_at forms line) ++ branches) (beside children rest)
      ≡ branches_at forms (split_by branch (conclusions_at forms line)) children ++ branches_at forms branches rest
  branches_at-split branch branches line children rest shape =
      branches_at-beside (split_by branch (conclusions_at forms line)) branches children rest (rw length-split_by shape.0)

  -- the lines show the trees
  pub preorder_unique : (n : ℕ) (trees others : Trees) (after more : List TreeLine) → AreTrees forms n trees → AreTrees forms n others
      → preorder trees ++ after ≡ preorder others ++ more → (trees ≡ others) × (after ≡ more)
  preorder_unique zero done done after more shape shape' same = (refl, same)
  preorder_unique zero done (tree line children rest) after more shape shape' same = absurd shape'
  preorder_unique zero (tree line children rest) others after more shape shape' same = absurd shape
  preorder_unique (suc n) done others after more shape shape' same = absurd shape
  preorder_unique (suc n) (tree line children rest) done after more shape shape' same = absurd shape'
  preorder_unique (suc n) (tree line children rest) (tree line' children' rest') after more shape shape' same =
      let head : line ≡ line' = cc in
      let tail : preorder children ++ preorder rest ++ after ≡ preorder children' ++ preorder rest' ++ more = cc in
      let apart : preorder children ++ (preorder rest ++ after) ≡ preorder children' ++ (preorder rest' ++ more) =
      sym (append_assoc (preorder children) (preorder rest) after) ∙ tail ∙ append_assoc (preorder children') (preorder rest') more in
      let below = preorder_unique (length (conclusions_at forms line)) children children' (preorder rest ++ after) (preorder rest' ++ more) shape.0
      (subst (λ l. AreTrees forms (length (conclusions_at forms l)) children') (sym head) shape'.0) apart in
      let beyond = preorder_unique n rest rest' after more shape.1 shape'.1 below.1 in
      (rw (head, below.0, beyond.0) refl, beyond.1)
