-- A set that passes a node and obeys the instances of the plain tree below it includes the literals of one of its saturated nodes.
use Rattle.std.proofs.Common.{◌≡◌, ℕ, Bool, true, false, true≢false, not, All, subst, List, [], ◌∷◌, ◌++◌, refl, sym, ap, ◌∙◌, inl, inr}
use Rattle.std.specs.List.{list_any}
use Rattle.mg_word.specs.Sets.{same_lit, holds, is_part, meets, is_clash_free, with_lit}
use Rattle.mg_word.specs.Words.{complement_of}
use Rattle.mg_word.specs.OrderLaws.{lits_equal}
use Rattle.mg_word.specs.Facts.{ProblemData}
use Rattle.mg_word.specs.declared.lit.Lit.{Lit}
use Rattle.mg_word.specs.declared.form.Inst.{Inst}
use Rattle.mg_word.proofs.Members.{two_cases, either_true, both_true, not_true, or_true, part_holds, part_of_part, part-append, none_met, not_met, clash_free_at, and_true}
use Rattle.mg_word.proofs.RisingLists.{holds-with_lit}
use Rattle.mg_meaning.specs.Satisfaction.{Satisfies}
use Rattle.mg_meaning.specs.Instances.{IsInstance}
use Rattle.mg_meaning.specs.Violation.{is_violated}
use Rattle.mg_meaning.specs.Excluding.{passes, obeys}
use Rattle.mg_meaning.specs.PlainTree.{Shape, Shapes, saturated, rejected, split, none, shut, child, IsPlain, ArePlain, insts_in, insts_in_all, saturated_in, saturated_in_all}
use Rattle.mg_meaning.proofs.Lists.{Among, among-append, all_among}
use Rattle.mg_meaning.proofs.Excluded.{violated_parts, obeyed, satisfied_obeys, passing_parts}

-- one of the sets is included
abbrev pub includes_one : List Lit → List (List Lit) → Bool
includes_one set sets = list_any (λ listed. is_part listed set) sets

one_left : (set : List Lit) (xs ys : List (List Lit)) → includes_one set xs ≡ true → includes_one set (xs ++ ys) ≡ true
one_left set [] ys e = absurd (true≢false (sym e))
one_left set (x ∷ xs) ys e = or_true (is_part x set) (includes_one set (xs ++ ys)) (elim (either_true (is_part x set) (includes_one set xs) e) [
  | inl here ↦ inl here
  | inr later ↦ inr (one_left set xs ys later)
])

one_right : (set : List Lit) (xs ys : List (List Lit)) → includes_one set ys ≡ true → includes_one set (xs ++ ys) ≡ true
one_right set [] ys e = e
one_right set (x ∷ xs) ys e = or_true (is_part x set) (includes_one set (xs ++ ys)) (inr (one_right set xs ys e))

-- a barred set with one literal more, which is not in the set
still_apart : (set barred : List Lit) (lit : Lit) → meets barred set ≡ false → holds set lit ≡ false → meets (with_lit barred lit) set ≡ false
still_apart set barred lit apart out = none_met (with_lit barred lit) set (λ one there.
    elim (either_true (same_lit lit one) (holds barred one) (sym (holds-with_lit barred lit one) ∙ there)) [
      | inl same ↦ ap (holds set) (sym ((lits_equal lit one).0 same)) ∙ out
      | inr old ↦ not_met barred set one apart old
    ])

-- what a list of instances that a set obeys is joined from
obeys_left : (xs ys : List Inst) (set : List Lit) → obeys (xs ++ ys) set ≡ true → obeys xs set ≡ true
obeys_left [] ys set obeying = refl
obeys_left (x ∷ xs) ys set obeying = let parts = both_true (not (is_violated set x)) (obeys (xs ++ ys) set) obeying in and_true (not (is_violated set x)) (obeys xs set) parts.0 (obeys_left xs ys set parts.1)

obeys_right : (xs ys : List Inst) (set : List Lit) → obeys (xs ++ ys) set ≡ true → obeys ys set ≡ true
obeys_right [] ys set obeying = obeying
obeys_right (x ∷ xs) ys set obeying = obeys_right xs ys set (both_true (not (is_violated set x)) (obeys (xs ++ ys) set) obeying).1

-- a set that obeys the instance of a node that it passes holds a conclusion
passed_conclusion : (set held : List Lit) (inst : Inst) → is_violated held inst ≡ true → is_violated set inst ≡ false → is_part held set ≡ true → meets inst.conclusions set ≡ true
passed_conclusion set held inst violated fine inside = obeyed set inst fine (part_of_part inst.premises held set (violated_parts held inst violated).0 inside)

mutual
  pub plain_covers : (problem : ProblemData) (weight : ℕ) (set : List Lit) → is_clash_free set ≡ true → (shape : Shape) (held barred : List Lit) → IsPlain problem weight held barred shape → obeys (insts_in shape) set ≡ true
      → is_part held set ≡ true → meets barred set ≡ false → includes_one set (saturated_in held shape) ≡ true
  plain_covers problem weight set free saturated held barred plain obeying inside apart = or_true (is_part held set) false (inl inside)
  plain_covers problem weight set free (rejected inst) held barred plain obeying inside apart =
      let fine = not_true (is_violated set inst) (both_true (not (is_violated set inst)) true obeying).0 in
      absurd (true≢false (sym (passed_conclusion set held inst plain.0.violated fine inside) ∙ ap (λ lits. meets lits set) plain.1))
  plain_covers problem weight set free (split inst children) held barred plain obeying inside apart =
      let parts = both_true (not (is_violated set inst)) (obeys (insts_in_all children) set) obeying in
      children_cover problem weight set free children held barred inst.conclusions plain.3 parts.1 inside apart
      (passed_conclusion set held inst plain.0.violated (not_true (is_violated set inst) parts.0) inside)

  pub children_cover : (problem : ProblemData) (weight : ℕ) (set : List Lit) → is_clash_free set ≡ true → (children : Shapes) (held barred conclusions : List Lit) → ArePlain problem weight held barred conclusions children
      → obeys (insts_in_all children) set ≡ true → is_part held set ≡ true → meets barred set ≡ false → meets conclusions set ≡ true → includes_one set (saturated_in_all held conclusions children) ≡ true
  children_cover problem weight set free none held barred [] plain obeying inside apart some = absurd (true≢false (sym some))
  children_cover problem weight set free none held barred (conclusion ∷ conclusions) plain obeying inside apart some = absurd plain
  children_cover problem weight set free (shut children) held barred [] plain obeying inside apart some = absurd plain
  children_cover problem weight set free (shut children) held barred (conclusion ∷ conclusions) plain obeying inside apart some =
      elim (two_cases (holds set conclusion)) [
        | inl here ↦ absurd (elim (either_true (holds held (complement_of conclusion)) (holds barred conclusion) plain.0) [
          | inl clash ↦ true≢false (sym (part_holds held set (complement_of conclusion) inside clash) ∙ clash_free_at set conclusion free here)
          | inr bar ↦ true≢false (sym here ∙ not_met barred set conclusion apart bar)
        ])
        | inr out ↦
            children_cover problem weight set free children held (with_lit barred conclusion) conclusions plain.1 obeying inside (still_apart set barred conclusion apart out) (rw out at some)
      ]
  children_cover problem weight set free (child shape children) held barred [] plain obeying inside apart some = absurd plain
  children_cover problem weight set free (child shape children) held barred (conclusion ∷ conclusions) plain obeying inside apart some =
      elim (two_cases (holds set conclusion)) [
        | inl here ↦
            one_left set (saturated_in (held ++ conclusion ∷ []) shape) (saturated_in_all held conclusions children)
            (plain_covers problem weight set free shape (held ++ conclusion ∷ []) barred plain.1 (obeys_left (insts_in shape) (insts_in_all children) set obeying)
            (part-append held (conclusion ∷ []) set inside (and_true (holds set conclusion) true here refl)) apart)
        | inr out ↦
            one_right set (saturated_in (held ++ conclusion ∷ []) shape) (saturated_in_all held conclusions children)
            (children_cover problem weight set free children held (with_lit barred conclusion) conclusions plain.2 (obeys_right (insts_in shape) (insts_in_all children) set obeying) inside (still_apart set barred conclusion apart out) (rw out at some))
      ]

-- a plain tree goes by instances of the problem
mutual
  shape_among : (problem : ProblemData) (weight : ℕ) (shape : Shape) (held barred : List Lit) → IsPlain problem weight held barred shape → (inst : Inst) → Among (insts_in shape) inst → IsInstance problem inst
  shape_among problem weight saturated held barred plain inst there = absurd there
  shape_among problem weight (rejected own) held barred plain inst (inl same) = subst (IsInstance problem) same plain.0.instance
  shape_among problem weight (rejected own) held barred plain inst (inr bad) = absurd bad
  shape_among problem weight (split own children) held barred plain inst (inl same) = subst (IsInstance problem) same plain.0.instance
  shape_among problem weight (split own children) held barred plain inst (inr later) = shapes_among problem weight children held barred own.conclusions plain.3 inst later

  shapes_among : (problem : ProblemData) (weight : ℕ) (children : Shapes) (held barred conclusions : List Lit) → ArePlain problem weight held barred conclusions children → (inst : Inst) → Among (insts_in_all children) inst → IsInstance problem inst
  shapes_among problem weight none held barred conclusions plain inst there = absurd there
  shapes_among problem weight (shut children) held barred [] plain inst there = absurd plain
  shapes_among problem weight (shut children) held barred (conclusion ∷ conclusions) plain inst there = shapes_among problem weight children held (with_lit barred conclusion) conclusions plain.1 inst there
  shapes_among problem weight (child shape children) held barred [] plain inst there = absurd plain
  shapes_among problem weight (child shape children) held barred (conclusion ∷ conclusions) plain inst there = elim (among-append (insts_in shape) (insts_in_all children) inst there) [
    | inl own ↦ shape_among problem weight shape (held ++ conclusion ∷ []) barred plain.1 inst own
    | inr later ↦ shapes_among problem weight children held (with_lit barred conclusion) conclusions plain.2 inst later
  ]

pub shape_insts : (problem : ProblemData) (weight : ℕ) (held barred : List Lit) (shape : Shape) → IsPlain problem weight held barred shape → All (IsInstance problem) (insts_in shape)
shape_insts problem weight held barred shape plain = all_among (IsInstance problem) (insts_in shape) (shape_among problem weight shape held barred plain)

pub plain_passed : (problem : ProblemData) (weight : ℕ) (held barred : List Lit) (shape : Shape) → IsPlain problem weight held barred shape → (set : List Lit) → is_clash_free set ≡ true → obeys (insts_in shape) set ≡ true
    → passes set held barred ≡ true → includes_one set (saturated_in held shape) ≡ true
plain_passed problem weight held barred shape plain set free obeying passing =
    let parts = passing_parts set held barred passing in
    plain_covers problem weight set free shape held barred plain obeying parts.0 parts.1

pub plain_includes : (problem : ProblemData) (weight : ℕ) (held barred : List Lit) (shape : Shape) → IsPlain problem weight held barred shape → (set : List Lit) → Satisfies set problem → passes set held barred ≡ true
    → includes_one set (saturated_in held shape) ≡ true
plain_includes problem weight held barred shape plain set satisfied =
    plain_passed problem weight held barred shape plain set satisfied.consistent (satisfied_obeys set problem (insts_in shape) satisfied (shape_insts problem weight held barred shape plain))
