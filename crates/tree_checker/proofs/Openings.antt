-- Lines are one tree exactly where none is still to come after them, and none was missing before a line.
use Rattle.std.proofs.Common.{◌≡◌, ℕ, ◌+◌, zero, suc, List, [], ◌∷◌, ◌++◌, length, Some, refl, sym, ap, subst, ◌∙◌, arith, append_assoc}
use Rattle.std.proofs.lemmas.List.{append-nil}
use Rattle.mg_word.specs.declared.form.Form.{Form}
use Rattle.tree_checker.specs.Trees.{Trees, done, tree, preorder, conclusions_at, AreTrees, IsTree}
use Rattle.tree_checker.specs.Openings.{open_after}
use Rattle.tree_checker.specs.declared.doc.TreeLine.{TreeLine}

module _ (forms : List Form) where
  -- trees in a row split after the first so many
  pub record Halves (n m : ℕ) (trees : Trees) : Type 0 where
    pub first : Trees
    pub second : Trees
    pub shape_first : AreTrees forms n first
    pub shape_second : AreTrees forms m second
    pub same : preorder trees ≡ preorder first ++ preorder second

  pub AreTrees-halves : (n m : ℕ) (trees : Trees) → AreTrees forms (n + m) trees → Halves n m trees
  AreTrees-halves zero m trees shape =
      let none : 0 + m ≡ m = omega arith in
      record { first = done; second = trees; shape_first = tt; shape_second = subst (λ k. AreTrees forms k trees) none shape; same = refl }
  AreTrees-halves (suc n) m done shape =
      let next : suc n + m ≡ suc (n + m) = omega arith in
      absurd (subst (λ k. AreTrees forms k done) next shape)
  AreTrees-halves (suc n) m (tree line children rest) shape =
      let next : suc n + m ≡ suc (n + m) = omega arith in
      let parts = subst (λ k. AreTrees forms k (tree line children rest)) next shape in
      let halves = AreTrees-halves n m rest parts.1 in
      record {
        first = tree line children halves.first;
        second = halves.second;
        shape_first = (parts.0, halves.shape_first);
        shape_second = halves.shape_second;
        same = ap (λ lines. line ∷ preorder children ++ lines) halves.same
            ∙ sym (append_assoc (line ∷ preorder children) (preorder halves.first) (preorder halves.second));
      }

  -- so many trees, whose lines these are
  pub record Shown (n : ℕ) (lines : List TreeLine) : Type 0 where
    pub trees : Trees
    pub same : preorder trees ≡ lines
    pub shape : AreTrees forms n trees

  pub shown_from_none_open : (n : ℕ) (lines : List TreeLine) → open_after forms n lines ≡ Some 0 → Shown n lines
  shown_from_none_open zero [] none = record { trees = done; same = refl; shape = tt }
  shown_from_none_open (suc n) [] none = let bad : ⊥ = cc in absurd bad
  shown_from_none_open zero (line ∷ lines) none = let bad : ⊥ = cc in absurd bad
  shown_from_none_open (suc n) (line ∷ lines) none =
      let shown = shown_from_none_open (length (conclusions_at forms line) + n) lines none in
      let halves = AreTrees-halves (length (conclusions_at forms line)) n shown.trees shown.shape in
      record {
        trees = tree line halves.first halves.second;
        same = ap (λ rest. line ∷ rest) (sym halves.same ∙ shown.same);
        shape = (halves.shape_first, halves.shape_second);
      }

  -- lines after which no tree is to come are one tree
  pub tree_from_none_open : (lines : List TreeLine) → open_after forms 1 lines ≡ Some 0 → IsTree forms lines
  tree_from_none_open lines none = let shown = shown_from_none_open 1 lines none in (shown.trees, shown.same, shown.shape)

  -- trees take their own number away
  pub open_after-trees : (n m : ℕ) (trees : Trees) (after : List TreeLine) → AreTrees forms n trees → open_after forms (n + m) (preorder trees ++ after) ≡ open_after forms m after
  open_after-trees zero m done after shape = let none : 0 + m ≡ m = omega arith in ap (λ k. open_after forms k after) none
  open_after-trees zero m (tree line children rest) after shape = absurd shape
  open_after-trees (suc n) m done after shape = absurd shape
  open_after-trees (suc n) m (tree line children rest) after shape =
      let next : suc n + m ≡ suc (n + m) = omega arith in
      ap (λ k. open_after forms k (line ∷ (preorder children ++ preorder rest) ++ after)) next
      ∙ ap (open_after forms (length (conclusions_at forms line) + (n + m))) (append_assoc (preorder children) (preorder rest) after)
      ∙ open_after-trees (length (conclusions_at forms line)) (n + m) children (preorder rest ++ after) shape.0
      ∙ open_after-trees n m rest after shape.1

  -- after a tree's lines no tree is to come
  pub none_open_from_tree : (lines : List TreeLine) → IsTree forms lines → open_after forms 1 lines ≡ Some 0
  none_open_from_tree lines (trees, same, shape) =
      ap (open_after forms 1) (sym same ∙ sym (append-nil (preorder trees))) ∙ open_after-trees 1 0 trees [] shape

  -- one line more
  pub open_after-push : (n wanted : ℕ) (lines : List TreeLine) (line : TreeLine) → open_after forms n lines ≡ Some (suc wanted)
      → open_after forms n (lines ++ line ∷ []) ≡ Some (length (conclusions_at forms line) + wanted)
  open_after-push zero wanted [] line is = let bad : ⊥ = cc in absurd bad
  open_after-push (suc n) wanted [] line is = let same : n ≡ wanted = cc in ap (λ k. Some (length (conclusions_at forms line) + k)) same
  open_after-push zero wanted (first ∷ lines) line is = let bad : ⊥ = cc in absurd bad
  open_after-push (suc n) wanted (first ∷ lines) line is = open_after-push (length (conclusions_at forms first) + n) wanted lines line is
