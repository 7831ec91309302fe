-- Laws of the plain search tree.
use Rattle.std.specs.Prelude.{◌+◌, ◌≡◌, ◌≢◌, ◌↔◌, ◌⊎◌, ℕ, ◌<◌, ◌≤◌, List, [], All, IsTrue}
use Rattle.std.specs.List.{list_any}
use Rattle.mg_word.specs.Sets.{is_part, is_clash_free}
use Rattle.mg_word.specs.Facts.{ProblemData, IsProblem}
use Rattle.mg_word.specs.declared.lit.Lit.{Lit}
use Rattle.mg_word.specs.declared.form.Inst.{Inst}
use Rattle.mg_meaning.specs.Truth.{Ground}
use Rattle.mg_meaning.specs.Refuting.{Refutes}
use Rattle.mg_meaning.specs.Instances.{IsInstance}
use Rattle.mg_meaning.specs.Satisfaction.{Satisfies}
use Rattle.mg_meaning.specs.Violation.{weight_of, IsLeast, IsSaturated}
use Rattle.mg_meaning.specs.Excluding.{passes, obeys}
use Rattle.mg_meaning.specs.Bound.{bound, positive_weight, HasNoFunctions, greatest_arity}
use Rattle.mg_meaning.specs.PlainTree.{Shape, IsPlain, Plain, ChildrenCount, insts_in, saturated_in}

-- the plain tree has one number of extensions, or none
abbrev pub PlainIsUnique : Type 0
PlainIsUnique = (problem : ProblemData) (weight : ℕ) (held barred : List Lit) (a b : ℕ) → Plain problem weight held barred a → Plain problem weight held barred b → a ≡ b

-- where the least violated instance weighs more than the limit, the plain tree has no number of extensions
abbrev pub HeavyHasNoPlain : Type 0
HeavyHasNoPlain = (problem : ProblemData) (weight : ℕ) (held barred : List Lit) (inst : Inst) → IsLeast problem held inst → weight < weight_of inst → (count : ℕ) → Plain problem weight held barred count → ⊥

-- a satisfying set that passes a node includes the literals of a saturated node of the plain tree from there
abbrev pub PlainIncludes : Type 0
PlainIncludes = (problem : ProblemData) (weight : ℕ) (held barred : List Lit) (shape : Shape) → IsPlain problem weight held barred shape
    → (set : List Lit) → Satisfies set problem → IsTrue (passes set held barred) → IsTrue (list_any (λ listed. is_part listed set) (saturated_in held shape))

-- where ground instances whose positive literals weigh at most so much refute, the plain tree within that weight has at most the bound's number of extensions
abbrev pub BoundIsEnough : Type 0
BoundIsEnough = (problem : ProblemData) → IsProblem problem → (instances : List Ground) → Refutes instances problem → (light weight : ℕ) → light ≤ weight
    → All (λ instance. positive_weight problem.clauses instance ≤ light) instances → (count : ℕ) × Plain problem weight [] [] count × (count ≤ bound problem light)

-- the table of the plain tree, read both ways
pub record PlainByTable : Type 0 where
  -- a node with a number is saturated or has a least violated instance
  pub cases : (problem : ProblemData) (weight : ℕ) (held barred : List Lit) (count : ℕ) → Plain problem weight held barred count → IsSaturated problem held ⊎ ((inst : Inst) × IsLeast problem held inst)
  -- 0 where no instance is violated
  pub saturated : (problem : ProblemData) (weight : ℕ) (held barred : List Lit) (count : ℕ) → IsSaturated problem held → Plain problem weight held barred count ↔ (count ≡ 0)
  -- 0 where the least violated instance has no conclusions
  pub rejected : (problem : ProblemData) (weight : ℕ) (held barred : List Lit) (count : ℕ) (inst : Inst) → IsLeast problem held inst → inst.conclusions ≡ [] → Plain problem weight held barred count ↔ (count ≡ 0)
  -- 1 and the sum over the children where it weighs from 1 to the limit
  pub split : (problem : ProblemData) (weight : ℕ) (held barred : List Lit) (count : ℕ) (inst : Inst) → IsLeast problem held inst → 0 < weight_of inst → weight_of inst ≤ weight
      → Plain problem weight held barred count ↔ ((sum : ℕ) × ChildrenCount problem weight held barred inst.conclusions sum × (count ≡ 1 + sum))
  -- where it has conclusions and there is a number, it weighs so much
  pub within : (problem : ProblemData) (weight : ℕ) (held barred : List Lit) (count : ℕ) (inst : Inst) → IsLeast problem held inst → inst.conclusions ≢ [] → Plain problem weight held barred count → (0 < weight_of inst) × (weight_of inst ≤ weight)

-- the instances of a plain tree are those of the problem, and a clash-free set that obeys them and passes the tree's root includes the literals of a saturated node
pub record PlainCovers : Type 0 where
  pub insts : (problem : ProblemData) (weight : ℕ) (held barred : List Lit) (shape : Shape) → IsPlain problem weight held barred shape → All (IsInstance problem) (insts_in shape)
  pub covers : (problem : ProblemData) (weight : ℕ) (held barred : List Lit) (shape : Shape) → IsPlain problem weight held barred shape → (set : List Lit) → IsTrue (is_clash_free set) → IsTrue (obeys (insts_in shape) set)
      → IsTrue (passes set held barred) → IsTrue (list_any (λ listed. is_part listed set) (saturated_in held shape))

-- without functions the bound is enough by itself, at the weight of the heaviest atom that there is
abbrev pub FunctionFreeIsEnough : Type 0
FunctionFreeIsEnough = (problem : ProblemData) → IsProblem problem → HasNoFunctions problem → (weight : ℕ) → 1 + greatest_arity problem.symbols ≤ weight
    → (count : ℕ) × Plain problem weight [] [] count × (count ≤ bound problem (1 + greatest_arity problem.symbols))
