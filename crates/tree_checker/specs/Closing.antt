-- When a tree closes a branch, and which line is the first that breaks a rule.
use Rattle.std.specs.Prelude.{◌≡◌, ℕ, ◌<◌, List, [], ◌∷◌, length, Some, None, slice_get, IsTrue}
use Rattle.mg_word.specs.Words.{lit_instances, complement_of, numbered}
use Rattle.mg_word.specs.Sets.{holds, is_part}
use Rattle.mg_word.specs.declared.form.Form.{Form}
use Rattle.mg_meaning.specs.Folding.{Pair}
use Rattle.tree_checker.specs.Trees.{Trees, done, tree, preorder, Branch, split_by, conclusions_at, AreTrees, branches_at}
use Rattle.tree_checker.specs.declared.doc.TreeLine.{TreeLine}
use Rattle.tree_checker.specs.declared.doc.TreeLine.TheVariants.{Form as FormLine, Clash, Barred, By}
use Rattle.tree_checker.specs.declared.doc.Why.{Why}
use Rattle.tree_checker.specs.declared.doc.Why.TheVariants.{Premise, NoClash, NotBarred, LemmaNumber, LemmaInside, LemmaOutside, Substitution}

module _ (forms : List Form) (lemmas : List Pair) where
  -- the line keeps the rules where this branch is
  abbrev pub IsFine : Branch → TreeLine → Type 0
  IsFine branch (FormLine number terms) =
      (form : Form) × (numbered forms number ≡ Some form) × (length terms ≡ form.variables) × IsTrue (is_part (lit_instances terms form.premises) branch.held)
  IsFine branch (Clash lit) = IsTrue (holds branch.held lit) × IsTrue (holds branch.held (complement_of lit))
  IsFine branch (Barred lit) = IsTrue (holds branch.held lit) × IsTrue (holds branch.barred lit)
  IsFine branch (By number) =
      (lemma : Pair) × (numbered lemmas number ≡ Some lemma) × IsTrue (is_part lemma.inside branch.held) × IsTrue (is_part lemma.outside branch.barred)

  -- the first rule that the line breaks where this branch is
  abbrev pub Breaks : Branch → TreeLine → Why → Type 0
  Breaks branch (FormLine number terms) Substitution = (form : Form) × (numbered forms number ≡ Some form) × (length terms ≡ form.variables → ⊥)
  Breaks branch (FormLine number terms) Premise =
      (form : Form) × (numbered forms number ≡ Some form) × (length terms ≡ form.variables) × (IsTrue (is_part (lit_instances terms form.premises) branch.held) → ⊥)
  Breaks branch (FormLine number terms) why = ⊥
  Breaks branch (Clash lit) NoClash = IsTrue (holds branch.held lit) × IsTrue (holds branch.held (complement_of lit)) → ⊥
  Breaks branch (Clash lit) why = ⊥
  Breaks branch (Barred lit) NotBarred = IsTrue (holds branch.held lit) × IsTrue (holds branch.barred lit) → ⊥
  Breaks branch (Barred lit) why = ⊥
  Breaks branch (By number) LemmaNumber = numbered lemmas number ≡ None
  Breaks branch (By number) LemmaInside = (lemma : Pair) × (numbered lemmas number ≡ Some lemma) × (IsTrue (is_part lemma.inside branch.held) → ⊥)
  Breaks branch (By number) LemmaOutside =
      (lemma : Pair) × (numbered lemmas number ≡ Some lemma) × IsTrue (is_part lemma.inside branch.held) × (IsTrue (is_part lemma.outside branch.barred) → ⊥)
  Breaks branch (By number) why = ⊥

  -- each tree closes its branch: its top line keeps the rules, and its children close the branches that the line splits it into
  abbrev pub Close : List Branch → Trees → Type 0
  Close [] done = Unit {0}
  Close [] (tree line children rest) = ⊥
  Close (branch ∷ branches) done = ⊥
  Close (branch ∷ branches) (tree line children rest) =
      IsFine branch line × Close (split_by branch (conclusions_at forms line)) children × Close branches rest

  -- the lines are one tree, and it closes this branch
  abbrev pub Closes : Branch → List TreeLine → Type 0
  Closes branch lines = (trees : Trees) × (preorder trees ≡ lines) × Close (branch ∷ []) trees

  -- of the lines of one tree from this branch, the one with that index is the first that breaks a rule, and it breaks that rule first
  pub record FirstBreak (start : Branch) (lines : List TreeLine) (at : ℕ) (why : Why) : Type 0 where
    pub trees : Trees
    pub same : preorder trees ≡ lines
    pub shape : AreTrees forms 1 trees
    pub earlier : (k : ℕ) (branch : Branch) (line : TreeLine) → k < at → slice_get (branches_at forms (start ∷ []) trees) k ≡ Some branch → slice_get lines k ≡ Some line → IsFine branch line
    pub branch : Branch
    pub line : TreeLine
    pub branch_is : slice_get (branches_at forms (start ∷ []) trees) at ≡ Some branch
    pub line_is : slice_get lines at ≡ Some line
    pub breaks : Breaks branch line why
