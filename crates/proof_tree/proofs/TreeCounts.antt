-- Trees are counted by their lines.
use Rattle.std.proofs.Common.{◌≡◌, ℕ, zero, suc, ◌+◌, List, [], ◌∷◌, ◌++◌, length, Option, Some, None, refl, sym, ap, ◌∙◌, subst, append_assoc, append-nil, arith}
use Rattle.mg_word.specs.declared.form.Form.{Form}
use Rattle.tree_checker.specs.Trees.{Trees, done, tree, preorder, AreTrees, IsTree, conclusions_at}
use Rattle.tree_checker.specs.declared.doc.TreeLine.{TreeLine}

-- the trees that are still to come behind these lines, where so many were to come before them
abbrev pub trees_left : List Form → ℕ → List TreeLine → Option ℕ
trees_left forms wanted [] = Some wanted
trees_left forms zero (line ∷ lines) = None
trees_left forms (suc wanted) (line ∷ lines) = trees_left forms (length (conclusions_at forms line) + wanted) lines

-- the lines of so many trees leave those that were to come behind them
pub trees_counted : (forms : List Form) (n k : ℕ) (trees : Trees) (more : List TreeLine) → AreTrees forms n trees → trees_left forms (n + k) (preorder trees ++ more) ≡ trees_left forms k more
trees_counted forms zero k done more are = let e : 0 + k ≡ k = omega arith in ap (λ m. trees_left forms m more) e
trees_counted forms zero k (tree line children rest) more are = absurd are
trees_counted forms (suc n) k done more are = absurd are
trees_counted forms (suc n) k (tree line children rest) more are =
    let e : suc n + k ≡ suc (n + k) = omega arith in
    ap (λ m. trees_left forms m (line ∷ preorder children ++ preorder rest ++ more)) e
    ∙ (ap (λ l. trees_left forms (length (conclusions_at forms line) + (n + k)) l) (append_assoc (preorder children) (preorder rest) more)
    ∙ (trees_counted forms (length (conclusions_at forms line)) (n + k) children (preorder rest ++ more) are.0 ∙ trees_counted forms n k rest more are.1))

-- the lines of one tree leave no tree to come
pub tree_counted : (forms : List Form) (lines : List TreeLine) → IsTree forms lines → trees_left forms 1 lines ≡ Some 0
tree_counted forms lines (trees, is, are) = ap (trees_left forms 1) (sym is ∙ sym (append-nil (preorder trees))) ∙ trees_counted forms 1 0 trees [] are

-- the first of the trees, and those after them
record IsParted (forms : List Form) (n k : ℕ) (trees : Trees) : Type 0 where
  first : Trees
  after : Trees
  first_are : AreTrees forms n first
  after_are : AreTrees forms k after
  same : preorder first ++ preorder after ≡ preorder trees

parted : (forms : List Form) (n k m : ℕ) (trees : Trees) → m ≡ n + k → AreTrees forms m trees → IsParted forms n k trees
parted forms zero k m trees is are = record { first = done; after = trees; first_are = tt; after_are = subst (λ i. AreTrees forms i trees) {x = m} (omega (arith, is)) are; same = refl }
parted forms (suc n) k zero trees is are = absurd (omega (arith, is))
parted forms (suc n) k (suc m) done is are = absurd are
parted forms (suc n) k (suc m) (tree line children rest) is are =
    let parts = parted forms n k m rest (omega (arith, is)) are.1 in
    record {
      first = tree line children parts.first;
      after = parts.after;
      first_are = (are.0, parts.first_are);
      after_are = parts.after_are;
      same = ap (λ l. line ∷ l) (append_assoc (preorder children) (preorder parts.first) (preorder parts.after) ∙ ap (λ l. preorder children ++ l) parts.same);
    }

-- lines that leave no tree to come are those of so many trees
pub counted_trees : (forms : List Form) (n : ℕ) (lines : List TreeLine) → trees_left forms n lines ≡ Some 0 → (trees : Trees) × (preorder trees ≡ lines) × AreTrees forms n trees
counted_trees forms zero [] is = (done, refl, tt)
counted_trees forms (suc n) [] is = absurd (no_more n is)
  where
    no_more : (k : ℕ) → Some (suc k) ≡ Some 0 → ⊥
    no_more k same = cc
counted_trees forms zero (line ∷ lines) is = absurd (none 0 is)
  where
    none : (n : ℕ) → None ≡ Some n → ⊥
    none n same = cc
counted_trees forms (suc n) (line ∷ lines) is =
    let below = counted_trees forms (length (conclusions_at forms line) + n) lines is in
    let parts = parted forms (length (conclusions_at forms line)) n (length (conclusions_at forms line) + n) below.0 refl below.2 in
    (tree line parts.first parts.after, ap (λ l. line ∷ l) (parts.same ∙ below.1), (parts.first_are, parts.after_are))

-- further lines are counted on from what the lines before them leave
pub left_append : (forms : List Form) (n w : ℕ) (lines more : List TreeLine) → trees_left forms n lines ≡ Some w → trees_left forms n (lines ++ more) ≡ trees_left forms w more
left_append forms n w [] more is = let same : n ≡ w = cc in ap (λ k. trees_left forms k more) same
left_append forms zero w (line ∷ lines) more is = cc
left_append forms (suc n) w (line ∷ lines) more is = left_append forms (length (conclusions_at forms line) + n) w lines more is
