-- The number of extensions of a plain tree by the cases of its least violated instance.
use Rattle.std.proofs.Common.{◌≡◌, ◌≢◌, ◌↔◌, ℕ, ◌+◌, ◌<◌, ◌≤◌, Bool, true, false, List, [], ◌∷◌, ◌++◌, refl, sym, ap, subst, ◌∙◌, ◌⊎◌, inl, inr, arith}
use Rattle.std.specs.Prelude.{MatchBool}
use Rattle.mg_word.specs.Sets.{with_lit}
use Rattle.mg_word.specs.Facts.{ProblemData}
use Rattle.mg_word.specs.declared.lit.Lit.{Lit}
use Rattle.mg_word.specs.declared.form.Inst.{Inst}
use Rattle.mg_meaning.specs.Violation.{weight_of, IsLeast, IsSaturated}
use Rattle.mg_meaning.specs.PlainTree.{Shape, Shapes, saturated, rejected, split, none, shut, child, extends_in, extends_in_all, is_closed_at_once, IsPlain, ArePlain, Plain, ChildCounts, ChildrenCount}
use Rattle.mg_meaning.proofs.InstOrders.{least_same, least_not_saturated}
use Rattle.mg_meaning.proofs.PlainShapes.{some_conclusions}

-- what a child counts, by whether it is closed at once
shut_counts : (problem : ProblemData) (weight : ℕ) (held barred : List Lit) (conclusion : Lit) (own : ℕ) → is_closed_at_once held barred conclusion ≡ true → own ≡ 0 → ChildCounts problem weight held barred conclusion own
shut_counts problem weight held barred conclusion own closed nothing = subst (λ test. MatchBool test (own ≡ 0) (Plain problem weight (held ++ conclusion ∷ []) barred own)) (sym closed) nothing

child_counts : (problem : ProblemData) (weight : ℕ) (held barred : List Lit) (conclusion : Lit) (own : ℕ) → is_closed_at_once held barred conclusion ≡ false → Plain problem weight (held ++ conclusion ∷ []) barred own
    → ChildCounts problem weight held barred conclusion own
child_counts problem weight held barred conclusion own opened plain = subst (λ test. MatchBool test (own ≡ 0) (Plain problem weight (held ++ conclusion ∷ []) barred own)) (sym opened) plain

-- from the shapes of the children to their sum
pub sum_from_shapes : (problem : ProblemData) (weight : ℕ) (children : Shapes) (held barred conclusions : List Lit) → ArePlain problem weight held barred conclusions children → ChildrenCount problem weight held barred conclusions (extends_in_all children)
sum_from_shapes problem weight none held barred [] are = refl
sum_from_shapes problem weight none held barred (conclusion ∷ conclusions) are = absurd are
sum_from_shapes problem weight (shut children) held barred [] are = absurd are
sum_from_shapes problem weight (shut children) held barred (conclusion ∷ conclusions) are =
    (0, extends_in_all children, shut_counts problem weight held barred conclusion 0 are.0 refl, sum_from_shapes problem weight children held (with_lit barred conclusion) conclusions are.1, omega arith)
sum_from_shapes problem weight (child shape children) held barred [] are = absurd are
sum_from_shapes problem weight (child shape children) held barred (conclusion ∷ conclusions) are =
    (extends_in shape, extends_in_all children, child_counts problem weight held barred conclusion (extends_in shape) are.0 (shape, are.1, refl), sum_from_shapes problem weight children held (with_lit barred conclusion) conclusions are.2, refl)

-- and from their sum to shapes
pub shapes_from_sum : (problem : ProblemData) (weight : ℕ) (held barred conclusions : List Lit) (sum : ℕ) → ChildrenCount problem weight held barred conclusions sum
    → (children : Shapes) × ArePlain problem weight held barred conclusions children × (extends_in_all children ≡ sum)
shapes_from_sum problem weight held barred [] sum counts = (none, tt, sym counts)
shapes_from_sum problem weight held barred (conclusion ∷ conclusions) sum (own, rest, first, others, size) =
    by (is_closed_at_once held barred conclusion) refl first (shapes_from_sum problem weight held (with_lit barred conclusion) conclusions rest others)
  where
    by : (closed : Bool) → is_closed_at_once held barred conclusion ≡ closed → MatchBool closed (own ≡ 0) (Plain problem weight (held ++ conclusion ∷ []) barred own)
        → (children : Shapes) × ArePlain problem weight held (with_lit barred conclusion) conclusions children × (extends_in_all children ≡ rest)
        → (all : Shapes) × ArePlain problem weight held barred (conclusion ∷ conclusions) all × (extends_in_all all ≡ sum)
    by true is counts (children, are, few) = (shut children, (is, are), omega (arith, counts, few, size))
    by false is (shape, plain, counts) (children, are, few) = (child shape children, (is, plain, are), omega (arith, counts, few, size))

pub plain_cases : (problem : ProblemData) (weight : ℕ) (held barred : List Lit) (count : ℕ) → Plain problem weight held barred count → IsSaturated problem held ⊎ ((inst : Inst) × IsLeast problem held inst)
plain_cases problem weight held barred count (shape, is, size) = by shape is
  where
    by : (one : Shape) → IsPlain problem weight held barred one → IsSaturated problem held ⊎ ((inst : Inst) × IsLeast problem held inst)
    by saturated is = inl is
    by (rejected inst) is = inr (inst, is.0)
    by (split inst children) is = inr (inst, is.0)

pub plain_saturated : (problem : ProblemData) (weight : ℕ) (held barred : List Lit) (count : ℕ) → IsSaturated problem held → Plain problem weight held barred count ↔ (count ≡ 0)
plain_saturated problem weight held barred count whole = ((λ (shape, is, size). by shape is size), (λ zero_is. (saturated, whole, sym zero_is)))
  where
    by : (one : Shape) → IsPlain problem weight held barred one → extends_in one ≡ count → count ≡ 0
    by saturated is size = sym size
    by (rejected inst) is size = absurd (least_not_saturated problem held inst is.0 whole)
    by (split inst children) is size = absurd (least_not_saturated problem held inst is.0 whole)

-- two least violated instances have the same conclusions
same_conclusions : (problem : ProblemData) (held : List Lit) (a b : Inst) → IsLeast problem held a → IsLeast problem held b → a.conclusions ≡ b.conclusions
same_conclusions problem held a b one two = ap (λ (inst : Inst). inst.conclusions) (least_same problem held a b one two)

pub plain_rejected : (problem : ProblemData) (weight : ℕ) (held barred : List Lit) (count : ℕ) (inst : Inst) → IsLeast problem held inst → inst.conclusions ≡ [] → Plain problem weight held barred count ↔ (count ≡ 0)
plain_rejected problem weight held barred count inst least empty = ((λ (shape, is, size). by shape is size), (λ zero_is. (rejected inst, (least, empty), sym zero_is)))
  where
    by : (one : Shape) → IsPlain problem weight held barred one → extends_in one ≡ count → count ≡ 0
    by saturated is size = absurd (least_not_saturated problem held inst least is)
    by (rejected other) is size = sym size
    by (split other children) is size = absurd (some_conclusions other is.1 (same_conclusions problem held other inst is.0 least ∙ empty))

pub plain_split : (problem : ProblemData) (weight : ℕ) (held barred : List Lit) (count : ℕ) (inst : Inst) → IsLeast problem held inst → 0 < weight_of inst → weight_of inst ≤ weight
    → Plain problem weight held barred count ↔ ((sum : ℕ) × ChildrenCount problem weight held barred inst.conclusions sum × (count ≡ 1 + sum))
plain_split problem weight held barred count inst least some light = ((λ (shape, is, size). by shape is size), from)
  where
    by : (one : Shape) → IsPlain problem weight held barred one → extends_in one ≡ count → (sum : ℕ) × ChildrenCount problem weight held barred inst.conclusions sum × (count ≡ 1 + sum)
    by saturated is size = absurd (least_not_saturated problem held inst least is)
    by (rejected other) is size = absurd (some_conclusions inst some (same_conclusions problem held inst other least is.0 ∙ is.1))
    by (split other children) is size = (
      extends_in_all children,
      subst (λ lits. ChildrenCount problem weight held barred lits (extends_in_all children)) (same_conclusions problem held other inst is.0 least)
          (sum_from_shapes problem weight children held barred other.conclusions is.3),
      sym size,
    )

    from : (sum : ℕ) × ChildrenCount problem weight held barred inst.conclusions sum × (count ≡ 1 + sum) → Plain problem weight held barred count
    from (sum, counts, size) =
        let (children, are, few) = shapes_from_sum problem weight held barred inst.conclusions sum counts in
        (split inst children, (least, some, light, are), omega (arith, few, size))

pub plain_within : (problem : ProblemData) (weight : ℕ) (held barred : List Lit) (count : ℕ) (inst : Inst) → IsLeast problem held inst → inst.conclusions ≢ [] → Plain problem weight held barred count → (0 < weight_of inst) × (weight_of inst ≤ weight)
plain_within problem weight held barred count inst least some (shape, is, size) = by shape is
  where
    by : (one : Shape) → IsPlain problem weight held barred one → (0 < weight_of inst) × (weight_of inst ≤ weight)
    by saturated is = absurd (least_not_saturated problem held inst least is)
    by (rejected other) is = absurd (some (same_conclusions problem held inst other least is.0 ∙ is.1))
    by (split other children) is =
        let same : weight_of other ≡ weight_of inst = ap weight_of (least_same problem held other inst is.0 least) in
        (omega (arith, same, is.1), omega (arith, same, is.2))
