-- Trees whose nodes are split by complements, after Bry and Yahya, and the lines that they are written as.
use Rattle.std.specs.Prelude.{◌≡◌, ℕ, zero, suc, List, [], ◌∷◌, ◌++◌, length, Option, Some, None}
use Rattle.mg_word.specs.Words.{lit_instances, numbered}
use Rattle.mg_word.specs.declared.lit.Lit.{Lit}
use Rattle.mg_word.specs.declared.form.Form.{Form}
use Rattle.tree_checker.specs.declared.doc.TreeLine.{TreeLine}
use Rattle.tree_checker.specs.declared.doc.TreeLine.TheVariants.{Form as FormLine, Clash, Barred, By}

-- trees in a row: the top line of the first with the trees of its children, and then the trees after it
pub data Trees : Type 0 where
  done : Trees
  tree : (line : TreeLine) (children rest : Trees) → Trees

-- the top line of each, followed by the preorders of its children
abbrev pub preorder : Trees → List TreeLine
preorder done = []
preorder (tree line children rest) = line ∷ preorder children ++ preorder rest

-- what a tree is closed from: the literals that are held and those that are barred, in the order of their entry.
-- Rules ask for membership alone, so that either list may be read as a set.
pub record Branch : Type 0 where
  pub held : List Lit
  pub barred : List Lit

-- nothing is held, and nothing barred
abbrev pub empty_branch : Branch
empty_branch = record { held = []; barred = [] }

-- child i goes on with conclusion i held and conclusions 1 to i - 1 barred
abbrev pub split_by : Branch → List Lit → List Branch
split_by branch [] = []
split_by branch (lit ∷ lits) =
    record { held = branch.held ++ lit ∷ []; barred = branch.barred } ∷ split_by (record { held = branch.held; barred = branch.barred ++ lit ∷ [] }) lits

-- the conclusions of a form's instance, where there is such a form
abbrev pub conclusions_under : List (List ℕ) → Option Form → List Lit
conclusions_under terms None = []
conclusions_under terms (Some form) = lit_instances terms form.conclusions

module _ (forms : List Form) where
  -- one tree stands below the line for each of these
  abbrev pub conclusions_at : TreeLine → List Lit
  conclusions_at (FormLine number terms) = conclusions_under terms (numbered forms number)
  conclusions_at (Clash lit) = []
  conclusions_at (Barred lit) = []
  conclusions_at (By number) = []

  -- so many trees, each node with a child for each conclusion of its line
  abbrev pub AreTrees : ℕ → Trees → Type 0
  AreTrees zero done = Unit {0}
  AreTrees zero (tree line children rest) = ⊥
  AreTrees (suc n) done = ⊥
  AreTrees (suc n) (tree line children rest) = AreTrees (length (conclusions_at line)) children × AreTrees n rest

  -- the lines are one tree
  abbrev pub IsTree : List TreeLine → Type 0
  IsTree lines = (trees : Trees) × (preorder trees ≡ lines) × AreTrees 1 trees

  -- the branch at each line of trees that begin from these branches, in preorder
  abbrev pub branches_at : List Branch → Trees → List Branch
  branches_at [] trees = []
  branches_at (branch ∷ branches) done = []
  branches_at (branch ∷ branches) (tree line children rest) =
      branch ∷ branches_at (split_by branch (conclusions_at line)) children ++ branches_at branches rest
