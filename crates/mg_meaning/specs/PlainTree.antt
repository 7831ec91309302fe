-- The plain search tree, without lemmas and without covering: complement splitting after Bry and Yahya.
use Rattle.std.specs.Prelude.{◌≡◌, ℕ, ◌+◌, ◌<◌, ◌≤◌, Bool, false, ◌||◌, List, [], ◌∷◌, ◌++◌, IsTrue, MatchBool}
use Rattle.mg_word.specs.Sets.{holds, with_lit}
use Rattle.mg_word.specs.Words.{complement_of}
use Rattle.mg_word.specs.Facts.{ProblemData}
use Rattle.mg_word.specs.declared.lit.Lit.{Lit}
use Rattle.mg_word.specs.declared.form.Inst.{Inst}
use Rattle.mg_meaning.specs.Violation.{weight_of, IsLeast, IsSaturated}

-- how a finite search tree goes: what is saturated, rejected and split, and which children are closed at once
mutual
  pub data Shape : Type 0 where
    saturated : Shape
    rejected : Inst → Shape
    split : Inst → Shapes → Shape

  pub data Shapes : Type 0 where
    none : Shapes
    shut : Shapes → Shapes
    child : Shape → Shapes → Shapes

-- the number of extensions: one for each split node
abbrev mutual
  pub extends_in : Shape → ℕ
  extends_in saturated = 0
  extends_in (rejected inst) = 0
  extends_in (split inst children) = 1 + extends_in_all children

  pub extends_in_all : Shapes → ℕ
  extends_in_all none = 0
  extends_in_all (shut children) = extends_in_all children
  extends_in_all (child shape children) = extends_in shape + extends_in_all children

-- a child is closed at once where its conclusion's complement is held or its conclusion is barred
abbrev pub is_closed_at_once : List Lit → List Lit → Lit → Bool
is_closed_at_once held barred conclusion = holds held (complement_of conclusion) || holds barred conclusion

-- the tree from these literals, in path order, and this barred set has that shape; it has none where a least violated instance weighs more than the limit
abbrev mutual
  pub IsPlain : ProblemData → ℕ → List Lit → List Lit → Shape → Type 0
  IsPlain problem weight held barred saturated = IsSaturated problem held
  IsPlain problem weight held barred (rejected inst) = IsLeast problem held inst × (inst.conclusions ≡ [])
  IsPlain problem weight held barred (split inst children) =
      IsLeast problem held inst × (0 < weight_of inst) × (weight_of inst ≤ weight) × ArePlain problem weight held barred inst.conclusions children

  -- child i holds conclusion i and bars those before it
  pub ArePlain : ProblemData → ℕ → List Lit → List Lit → List Lit → Shapes → Type 0
  ArePlain problem weight held barred [] none = Unit {0}
  ArePlain problem weight held barred (conclusion ∷ conclusions) (shut children) =
      IsTrue (is_closed_at_once held barred conclusion) × ArePlain problem weight held (with_lit barred conclusion) conclusions children
  ArePlain problem weight held barred (conclusion ∷ conclusions) (child shape children) =
      (is_closed_at_once held barred conclusion ≡ false) × IsPlain problem weight (held ++ conclusion ∷ []) barred shape
      × ArePlain problem weight held (with_lit barred conclusion) conclusions children
  ArePlain problem weight held barred [] (shut children) = ⊥
  ArePlain problem weight held barred [] (child shape children) = ⊥
  ArePlain problem weight held barred (conclusion ∷ conclusions) none = ⊥

-- the plain tree from these literals and this barred set has so many extensions
abbrev pub Plain : ProblemData → ℕ → List Lit → List Lit → ℕ → Type 0
Plain problem weight held barred count = (shape : Shape) × IsPlain problem weight held barred shape × (extends_in shape ≡ count)

-- what the child for this conclusion counts: 0 where it is closed at once, else the number of its own tree
abbrev pub ChildCounts : ProblemData → ℕ → List Lit → List Lit → Lit → ℕ → Type 0
ChildCounts problem weight held barred conclusion count = MatchBool (is_closed_at_once held barred conclusion) (count ≡ 0) (Plain problem weight (held ++ conclusion ∷ []) barred count)

-- the sum over the children: child i holds conclusion i and bars those before it
abbrev pub ChildrenCount : ProblemData → ℕ → List Lit → List Lit → List Lit → ℕ → Type 0
ChildrenCount problem weight held barred [] sum = sum ≡ 0
ChildrenCount problem weight held barred (conclusion ∷ conclusions) sum =
    (own : ℕ) × (rest : ℕ) × ChildCounts problem weight held barred conclusion own × ChildrenCount problem weight held (with_lit barred conclusion) conclusions rest × (sum ≡ own + rest)

-- the instances by which a tree rejects and splits
abbrev mutual
  pub insts_in : Shape → List Inst
  insts_in saturated = []
  insts_in (rejected inst) = inst ∷ []
  insts_in (split inst children) = inst ∷ insts_in_all children

  pub insts_in_all : Shapes → List Inst
  insts_in_all none = []
  insts_in_all (shut children) = insts_in_all children
  insts_in_all (child shape children) = insts_in shape ++ insts_in_all children

-- the literals of the saturated nodes of a tree from these literals
abbrev mutual
  pub saturated_in : List Lit → Shape → List (List Lit)
  saturated_in held saturated = held ∷ []
  saturated_in held (rejected inst) = []
  saturated_in held (split inst children) = saturated_in_all held inst.conclusions children

  pub saturated_in_all : List Lit → List Lit → Shapes → List (List Lit)
  saturated_in_all held [] none = []
  saturated_in_all held [] (shut children) = []
  saturated_in_all held [] (child shape children) = []
  saturated_in_all held (conclusion ∷ conclusions) none = []
  saturated_in_all held (conclusion ∷ conclusions) (shut children) = saturated_in_all held conclusions children
  saturated_in_all held (conclusion ∷ conclusions) (child shape children) = saturated_in (held ++ conclusion ∷ []) shape ++ saturated_in_all held conclusions children
