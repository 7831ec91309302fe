-- The plain tree from given literals and a given barred set has one shape.
use Rattle.std.proofs.Common.{◌≡◌, ℕ, ◌<◌, false, true≢false, List, [], ◌∷◌, ◌++◌, refl, sym, ap, ap₂, subst, ◌∙◌, arith}
use Rattle.mg_word.specs.Sets.{with_lit}
use Rattle.mg_word.specs.Facts.{ProblemData}
use Rattle.mg_word.specs.declared.lit.Lit.{Lit}
use Rattle.mg_word.specs.declared.form.Inst.{Inst}
use Rattle.mg_meaning.specs.Violation.{heaviest, weight_of, IsLeast}
use Rattle.mg_meaning.specs.PlainTree.{Shape, Shapes, saturated, rejected, split, none, shut, child, extends_in, is_closed_at_once, IsPlain, ArePlain, Plain}
use Rattle.mg_meaning.proofs.InstOrders.{least_same, least_not_saturated}

-- an instance of weight above 0 has conclusions
pub some_conclusions : (inst : Inst) → 0 < weight_of inst → inst.conclusions ≡ [] → ⊥
some_conclusions inst heavy empty = let zero_weight : weight_of inst ≡ 0 = ap heaviest empty in omega arith

mutual
  pub shape_same : (problem : ProblemData) (weight : ℕ) (a b : Shape) (held barred : List Lit) → IsPlain problem weight held barred a → IsPlain problem weight held barred b → a ≡ b
  shape_same problem weight saturated saturated held barred p q = refl
  shape_same problem weight saturated (rejected inst) held barred p q = absurd (least_not_saturated problem held inst q.0 p)
  shape_same problem weight saturated (split inst children) held barred p q = absurd (least_not_saturated problem held inst q.0 p)
  shape_same problem weight (rejected inst) saturated held barred p q = absurd (least_not_saturated problem held inst p.0 q)
  shape_same problem weight (rejected inst) (rejected other) held barred p q = ap rejected (least_same problem held inst other p.0 q.0)
  shape_same problem weight (rejected inst) (split other children) held barred p q =
      absurd (some_conclusions other q.1 (ap (λ (one : Inst). one.conclusions) (sym (least_same problem held inst other p.0 q.0)) ∙ p.1))
  shape_same problem weight (split inst children) saturated held barred p q = absurd (least_not_saturated problem held inst p.0 q)
  shape_same problem weight (split inst children) (rejected other) held barred p q =
      absurd (some_conclusions inst p.1 (ap (λ (one : Inst). one.conclusions) (least_same problem held inst other p.0 q.0) ∙ q.1))
  shape_same problem weight (split inst children) (split other others) held barred p q =
      let same : inst ≡ other = least_same problem held inst other p.0 q.0 in
      ap₂ split same (shapes_same problem weight children others held barred other.conclusions
      (subst (λ (one : Inst). ArePlain problem weight held barred one.conclusions children) same p.3) q.3)

  pub shapes_same : (problem : ProblemData) (weight : ℕ) (as' bs : Shapes) (held barred conclusions : List Lit) → ArePlain problem weight held barred conclusions as' → ArePlain problem weight held barred conclusions bs → as' ≡ bs
  shapes_same problem weight none none held barred conclusions p q = refl
  shapes_same problem weight none (shut bs) held barred [] p q = absurd q
  shapes_same problem weight none (shut bs) held barred (conclusion ∷ conclusions) p q = absurd p
  shapes_same problem weight none (child b bs) held barred [] p q = absurd q
  shapes_same problem weight none (child b bs) held barred (conclusion ∷ conclusions) p q = absurd p
  shapes_same problem weight (shut as') none held barred [] p q = absurd p
  shapes_same problem weight (shut as') none held barred (conclusion ∷ conclusions) p q = absurd q
  shapes_same problem weight (shut as') (shut bs) held barred [] p q = absurd p
  shapes_same problem weight (shut as') (shut bs) held barred (conclusion ∷ conclusions) p q = ap shut (shapes_same problem weight as' bs held (with_lit barred conclusion) conclusions p.1 q.1)
  shapes_same problem weight (shut as') (child b bs) held barred [] p q = absurd p
  shapes_same problem weight (shut as') (child b bs) held barred (conclusion ∷ conclusions) p q = absurd (true≢false (sym p.0 ∙ q.0))
  shapes_same problem weight (child a as') none held barred [] p q = absurd p
  shapes_same problem weight (child a as') none held barred (conclusion ∷ conclusions) p q = absurd q
  shapes_same problem weight (child a as') (shut bs) held barred [] p q = absurd p
  shapes_same problem weight (child a as') (shut bs) held barred (conclusion ∷ conclusions) p q = absurd (true≢false (sym q.0 ∙ p.0))
  shapes_same problem weight (child a as') (child b bs) held barred [] p q = absurd p
  shapes_same problem weight (child a as') (child b bs) held barred (conclusion ∷ conclusions) p q =
      ap₂ child (shape_same problem weight a b (held ++ conclusion ∷ []) barred p.1 q.1) (shapes_same problem weight as' bs held (with_lit barred conclusion) conclusions p.2 q.2)

pub plain_same : (problem : ProblemData) (weight : ℕ) (held barred : List Lit) (a b : ℕ) → Plain problem weight held barred a → Plain problem weight held barred b → a ≡ b
plain_same problem weight held barred a b p q = sym p.2 ∙ ap extends_in (shape_same problem weight p.0 q.0 held barred p.1 q.1) ∙ q.2

-- where the least violated instance weighs more than the limit, the plain tree has no number of extensions
pub heavy_not_plain : (problem : ProblemData) (weight : ℕ) (held barred : List Lit) (inst : Inst) → IsLeast problem held inst → weight < weight_of inst → (count : ℕ) → Plain problem weight held barred count → ⊥
heavy_not_plain problem weight held barred inst least heavy count (shape, is, size) = by shape is
  where
    by : (one : Shape) → IsPlain problem weight held barred one → ⊥
    by saturated is = least_not_saturated problem held inst least is
    by (rejected other) is =
        let same : inst ≡ other = least_same problem held inst other least is.0 in
        some_conclusions inst (omega (arith, heavy)) (ap (λ (one : Inst). one.conclusions) same ∙ is.1)
    by (split other children) is =
        let same : weight_of inst ≡ weight_of other = ap weight_of (least_same problem held inst other least is.0) in
        omega (arith, heavy, same, is.2)

-- nor has it where the first child, which is open, has none
pub heavy_child : (problem : ProblemData) (weight : ℕ) (held barred : List Lit) (inst : Inst) (conclusion : Lit) (conclusions : List Lit) → IsLeast problem held inst → inst.conclusions ≡ conclusion ∷ conclusions
    → is_closed_at_once held barred conclusion ≡ false → ((count : ℕ) → Plain problem weight (held ++ conclusion ∷ []) barred count → ⊥) → (count : ℕ) → Plain problem weight held barred count → ⊥
heavy_child problem weight held barred inst conclusion conclusions least first opened none_below count (shape, is, size) = by shape is
  where
    kids : (children : Shapes) → ArePlain problem weight held barred (conclusion ∷ conclusions) children → ⊥
    kids none are = are
    kids (shut children) are = true≢false (sym are.0 ∙ opened)
    kids (child one children) are = none_below (extends_in one) (one, are.1, refl)

    by : (one : Shape) → IsPlain problem weight held barred one → ⊥
    by saturated is = least_not_saturated problem held inst least is
    by (rejected other) is =
        let same : inst ≡ other = least_same problem held inst other least is.0 in
        let bad : conclusion ∷ conclusions ≡ [] = sym first ∙ (ap (λ (one : Inst). one.conclusions) same ∙ is.1) in cc
    by (split other children) is =
        let same : inst ≡ other = least_same problem held inst other least is.0 in
        kids children (subst (λ lits. ArePlain problem weight held barred lits children) (sym (ap (λ (one : Inst). one.conclusions) same) ∙ first) is.3)
