-- Trees that close leave nothing that makes all their instances true.
use Rattle.std.proofs.Common.{◌≡◌, ℕ, Bool, true, false, true≢false, not, ◌||◌, List, [], ◌∷◌, ◌++◌, Some, refl, sym, ap, subst, ◌∙◌, append_assoc}
use Rattle.std.specs.List.{list_any, list_all}
use Rattle.mg_word.specs.Sets.{holds}
use Rattle.mg_word.specs.Words.{lit_instances, complement_of, numbered}
use Rattle.mg_word.specs.declared.lit.Lit.{Lit}
use Rattle.mg_word.specs.declared.form.Form.{Form}
use Rattle.mg_meaning.specs.Truth.{Ground, lit_true}
use Rattle.tree_checker.specs.Trees.{Trees, done, tree, preorder, Branch, split_by, conclusions_under, conclusions_at}
use Rattle.mg_meaning.specs.Folding.{Pair}
use Rattle.tree_checker.specs.Closing.{IsFine, Close}
use Rattle.tree_checker.specs.Instances.{line_instances, tree_instances}
use Rattle.tree_checker.specs.declared.doc.TreeLine.{TreeLine}
use Rattle.tree_checker.specs.declared.doc.TreeLine.TheVariants.{Form as FormLine, Clash, Barred, By}
use Rattle.tree_checker.proofs.Truths.{all_append, all_push, holds_passes, part_passes}
use Rattle.mg_word.proofs.Members.{both_true}
use Rattle.mg_meaning.proofs.FormTruth.{complement_true}

pub tree_instances-append : (forms : List Form) (front back : List TreeLine) → tree_instances forms (front ++ back) ≡ tree_instances forms front ++ tree_instances forms back
tree_instances-append forms [] back = refl
tree_instances-append forms (line ∷ front) back =
    ap (λ instances. line_instances forms line ++ instances) (tree_instances-append forms front back)
    ∙ sym (append_assoc (line_instances forms line) (tree_instances forms front) (tree_instances forms back))

module _ (atoms : List (List ℕ)) where
  abbrev pub lit_false : Lit → Bool
  lit_false lit = not (lit_true atoms lit)

  -- all that is held is true, and all that is barred is false
  abbrev pub Passes : Branch → Type 0
  Passes branch = (list_all (lit_true atoms) branch.held ≡ true) × (list_all lit_false branch.barred ≡ true)

  abbrev pub NonePasses : List Branch → Type 0
  NonePasses [] = Unit {0}
  NonePasses (branch ∷ branches) = (Passes branch → ⊥) × NonePasses branches

  pub not_both : (lit : Lit) → lit_true atoms lit ≡ true → lit_true atoms (complement_of lit) ≡ true → ⊥
  not_both lit one other = true≢false (sym other ∙ complement_true atoms lit ∙ ap not one)

  -- where no child's branch passes and the line's own does, no conclusion is true
  pub NonePasses-split : (branch : Branch) (lits : List Lit) → NonePasses (split_by branch lits) → Passes branch → list_any (lit_true atoms) lits ≡ true → ⊥
  NonePasses-split branch [] none passes some = true≢false (sym some)
  NonePasses-split branch (first ∷ lits) none passes some = by (lit_true atoms first) refl some
      (NonePasses-split (record { held = branch.held; barred = branch.barred ++ first ∷ [] }) lits none.1)
    where
      by : (value : Bool) → lit_true atoms first ≡ value → (value || list_any (lit_true atoms) lits) ≡ true
          → (Passes (record { held = branch.held; barred = branch.barred ++ first ∷ [] }) → list_any (lit_true atoms) lits ≡ true → ⊥) → ⊥
      by true is some go = none.0 (all_push (lit_true atoms) branch.held first passes.0 is, passes.1)
      by false is some go = go (passes.0, all_push lit_false branch.barred first passes.1 (ap not is)) some

  module _ (passes_on : Ground → Bool) (forms : List Form) (lemmas : List Pair)
      (forms_hold : (number : ℕ) (terms : List (List ℕ)) (form : Form) → numbered forms number ≡ Some form → passes_on (record { clause = form.clause; terms = terms }) ≡ true
      → list_all (lit_true atoms) (lit_instances terms form.premises) ≡ true → list_any (lit_true atoms) (lit_instances terms form.conclusions) ≡ true)
      (earlier : (number : ℕ) (lemma : Pair) → numbered lemmas number ≡ Some lemma → list_all (lit_true atoms) lemma.inside ≡ true → list_all lit_false lemma.outside ≡ true → ⊥) where
    -- a line that keeps the rules has no branch that passes, where none of its children's does
    pub line_closes : (branch : Branch) (line : TreeLine) → IsFine forms lemmas branch line → list_all passes_on (line_instances forms line) ≡ true
        → NonePasses (split_by branch (conclusions_at forms line)) → Passes branch → ⊥
    line_closes branch (FormLine number terms) (form, at, count, premises) holds none passes =
        let made : list_all passes_on (record { clause = form.clause; terms = terms } ∷ []) ≡ true = rw at at holds in
        NonePasses-split branch (lit_instances terms form.conclusions)
        (subst (λ found. NonePasses (split_by branch (conclusions_under terms found))) at none) passes
        (forms_hold number terms form at (both_true (passes_on (record { clause = form.clause; terms = terms })) true made).0
        (part_passes (lit_true atoms) (lit_instances terms form.premises) branch.held passes.0 premises))
    line_closes branch (Clash lit) (one, other) holds none passes =
        not_both lit (holds_passes (lit_true atoms) branch.held lit passes.0 one) (holds_passes (lit_true atoms) branch.held (complement_of lit) passes.0 other)
    line_closes branch (Barred lit) (one, other) holds none passes =
        let yes_it_is = holds_passes (lit_true atoms) branch.held lit passes.0 one in
        let not_it_is = holds_passes lit_false branch.barred lit passes.1 other in
        true≢false (sym not_it_is ∙ ap not yes_it_is)
    line_closes branch (By number) (lemma, at, inside, outside) holds none passes =
        earlier number lemma at (part_passes (lit_true atoms) lemma.inside branch.held passes.0 inside) (part_passes lit_false lemma.outside branch.barred passes.1 outside)

    -- no branch that trees close passes
    pub Close-none_passes : (branches : List Branch) (trees : Trees) → Close forms lemmas branches trees → list_all passes_on (tree_instances forms (preorder trees)) ≡ true → NonePasses branches
    Close-none_passes [] done closes holds = tt
    Close-none_passes [] (tree line children rest) closes holds = tt
    Close-none_passes (branch ∷ branches) done closes holds = absurd closes
    Close-none_passes (branch ∷ branches) (tree line children rest) closes holds =
        let own = all_append passes_on (line_instances forms line) (tree_instances forms (preorder children ++ preorder rest)) holds in
        let others = all_append passes_on (tree_instances forms (preorder children)) (tree_instances forms (preorder rest))
        (ap (list_all passes_on) (sym (tree_instances-append forms (preorder children) (preorder rest))) ∙ own.1) in (
          line_closes branch line closes.0 own.0 (Close-none_passes (split_by branch (conclusions_at forms line)) children closes.1 others.0),
          Close-none_passes branches rest closes.2 others.1,
        )
