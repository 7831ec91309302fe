-- Where light ground instances refute, the plain tree is finite, and the bound is enough extensions.
use Rattle.std.proofs.Common.{◌≡◌, ℕ, zero, suc, ◌+◌, ◌*◌, ◌^◌, ◌<◌, ◌≤◌, true, false, true≢false, List, [], ◌∷◌, ◌++◌, length, All, refl, sym, ap, subst, ◌∙◌, ◌⊎◌, inl, inr, arith, add-one}
use Rattle.std.proofs.Math.Nat.{suc-mul, pow-succ', one-le-pow}
use Rattle.std.proofs.lemmas.Nat.{mul-le}
use Rattle.std.proofs.lemmas.List.{length-append}
use Rattle.mg_word.specs.Sets.{holds, with_lit}
use Rattle.mg_word.specs.Words.{lit_instances}
use Rattle.mg_word.specs.Facts.{ProblemData, IsProblem}
use Rattle.mg_word.specs.declared.lit.Lit.{Lit}
use Rattle.mg_word.specs.declared.lit.PatLit.{PatLit}
use Rattle.mg_word.specs.declared.form.Form.{Form}
use Rattle.mg_word.specs.declared.form.Inst.{Inst}
use Rattle.mg_word.proofs.Members.{two_cases, not_met}
use Rattle.mg_meaning.specs.Truth.{Ground}
use Rattle.mg_meaning.specs.Refuting.{Refutes}
use Rattle.mg_meaning.specs.Instances.{IsInstance}
use Rattle.mg_meaning.specs.Violation.{is_violated, weight_of, IsLeast}
use Rattle.mg_meaning.specs.Bound.{most_conclusions, bound, positive_weight}
use Rattle.mg_meaning.specs.PlainTree.{Shape, Shapes, rejected, split, none, shut, child, extends_in, extends_in_all, is_closed_at_once, IsPlain, ArePlain, Plain}
use Rattle.mg_meaning.proofs.Lists.{Among, among-append, Apart, apart-append}
use Rattle.mg_meaning.proofs.Matchings.{holds_from_among}
use Rattle.mg_meaning.proofs.Excluded.{violated_parts}
use Rattle.mg_meaning.proofs.FormVariables.{numbered_among}
use Rattle.mg_meaning.proofs.Room.{IsSmall, AreSmall, room}
use Rattle.mg_meaning.proofs.LightInsts.{light_violated, least_exists, conclusion_over, below_heaviest}

-- that many for each of the conclusions
abbrev pub for_each : ℕ → List Lit → ℕ
for_each cost [] = 0
for_each cost (lit ∷ lits) = cost + for_each cost lits

pub for_each_is : (cost : ℕ) (lits : List Lit) → for_each cost lits ≡ length lits * cost
for_each_is cost [] = let none_at_all : 0 * cost ≡ 0 = omega arith in sym none_at_all
for_each_is cost (lit ∷ lits) = let rest = for_each_is cost lits in let whole = suc-mul (length lits) cost in omega (arith, rest, whole)

form_most : (forms : List Form) (form : Form) → Among forms form → length form.conclusions ≤ most_conclusions forms
form_most [] form there = absurd there
form_most (first ∷ forms) form (inl same) = let own : length first.conclusions ≡ length form.conclusions = ap (λ (one : Form). length one.conclusions) same in omega arith
form_most (first ∷ forms) form (inr later) = let rest = form_most forms form later in omega arith

instances_length : (terms : List (List ℕ)) (lits : List PatLit) → length (lit_instances terms lits) ≡ length lits
instances_length terms [] = refl
instances_length terms (lit ∷ lits) = ap suc (instances_length terms lits)

pub inst_most : (problem : ProblemData) (inst : Inst) → IsInstance problem inst → length inst.conclusions ≤ most_conclusions problem.forms
inst_most problem inst is =
    let own = form_most problem.forms is.form (numbered_among problem.forms inst.form is.form is.is) in
    let same : length inst.conclusions ≡ length is.form.conclusions = ap (λ (one : Inst). length one.conclusions) is.made ∙ instances_length inst.subst is.form.conclusions in
    omega (arith, own, same)

-- a plain tree of no more than so many extensions
abbrev pub WithIn : ProblemData → ℕ → ℕ → List Lit → List Lit → Type 0
WithIn problem weight most held barred = (shape : Shape) × IsPlain problem weight held barred shape × (extends_in shape ≤ most)

-- the children, each within the same number
pub children_within : (problem : ProblemData) (weight most : ℕ) (held barred conclusions : List Lit) → ((lit : Lit) → Among conclusions lit → (more : List Lit) → WithIn problem weight most (held ++ lit ∷ []) more)
    → (children : Shapes) × ArePlain problem weight held barred conclusions children × (extends_in_all children ≤ for_each most conclusions)
children_within problem weight most held barred [] each = (none, tt, omega arith)
children_within problem weight most held barred (conclusion ∷ conclusions) each =
    let (children, plain, few) = children_within problem weight most held (with_lit barred conclusion) conclusions (λ lit there. each lit (inr there)) in
    by children plain few (two_cases (is_closed_at_once held barred conclusion)) (each conclusion (inl refl) barred)
  where
    by : (children : Shapes) → ArePlain problem weight held (with_lit barred conclusion) conclusions children → extends_in_all children ≤ for_each most conclusions
        → (is_closed_at_once held barred conclusion ≡ true) ⊎ (is_closed_at_once held barred conclusion ≡ false) → WithIn problem weight most (held ++ conclusion ∷ []) barred
        → (all : Shapes) × ArePlain problem weight held barred (conclusion ∷ conclusions) all × (extends_in_all all ≤ for_each most (conclusion ∷ conclusions))
    by children plain few (inl closed) own = (shut children, (closed, plain), omega (arith, few))
    by children plain few (inr opened) (shape, is, small) = (child shape children, (opened, is, plain), omega (arith, few, small))

-- the conclusions of a light violated instance are new and small
pub new_small : (problem : ProblemData) → IsProblem problem → (weight : ℕ) (held : List Lit) (inst : Inst) → IsInstance problem inst → is_violated held inst ≡ true → weight_of inst ≤ weight → AreSmall (length problem.symbols) weight held → Apart held
    → (lit : Lit) → Among inst.conclusions lit → AreSmall (length problem.symbols) weight (held ++ lit ∷ []) × Apart (held ++ lit ∷ [])
new_small problem real weight held inst is violated light small apart lit there = (
  (λ one among. elim (among-append held (lit ∷ []) one among) [
    | inl old ↦ small one old
    | inr (inl same) ↦ subst (IsSmall (length problem.symbols) weight) same own
    | inr (inr bad) ↦ absurd bad
  ]),
  apart-append held (lit ∷ []) apart ((λ bad. bad), tt) (λ one old new. elim new [
    | inl same ↦ true≢false (sym (holds_from_among held one old) ∙ subst (λ other. holds held other ≡ false) same out)
    | inr bad ↦ bad
  ]),
)
  where
    own : IsSmall (length problem.symbols) weight lit
    own =
        let over = conclusion_over problem real inst is lit there in
        let most = below_heaviest inst.conclusions lit there in
        record { below = over.below; short = omega (arith, most, light) }

    out : holds held lit ≡ false
    out = not_met inst.conclusions held lit (violated_parts held inst violated).1 (holds_from_among inst.conclusions lit there)

-- some conclusion makes an instance weigh something
pub some_weight : (problem : ProblemData) → IsProblem problem → (inst : Inst) → IsInstance problem inst → (lit : Lit) → Among inst.conclusions lit → 0 < weight_of inst
some_weight problem real inst is lit there =
    let over = conclusion_over problem real inst is lit there in
    let most = below_heaviest inst.conclusions lit there in
    omega (arith, over.some, most)

pub one_more : (most power total : ℕ) → 1 ≤ power → total ≤ most * power → 1 + total ≤ (most + 1) * power
one_more most power total some few =
    let whole : suc most * power ≡ most * power + power = suc-mul most power in
    let same : (most + 1) * power ≡ most * power + power = ap (λ n. n * power) (add-one most) ∙ whole in
    omega (arith, same, some, few)

module _ (problem : ProblemData) (real : IsProblem problem) (grounds : List Ground) (refutes : Refutes grounds problem) (light weight : ℕ) (within : light ≤ weight)
    (each : All (λ ground. positive_weight problem.clauses ground ≤ light) grounds) where
  abbrev base : ℕ
  base = most_conclusions problem.forms + 1

  abbrev capacity : ℕ
  capacity = 2 * (length problem.symbols + 1) ^ light

  -- one node, where each child that a small new literal makes is within a number
  node : (most : ℕ) (held barred : List Lit) → AreSmall (length problem.symbols) light held → Apart held
      → ((lit : Lit) → AreSmall (length problem.symbols) light (held ++ lit ∷ []) → Apart (held ++ lit ∷ []) → (more : List Lit) → WithIn problem weight most (held ++ lit ∷ []) more)
      → WithIn problem weight (1 + most_conclusions problem.forms * most) held barred
  node most held barred small apart go =
      let (inst, is, violated, inst_light) = light_violated problem real grounds refutes light each held in
      let (least, least_is, no_heavier) = least_exists problem real held inst is violated in
      by least least_is (omega (arith, no_heavier, inst_light)) least.conclusions refl
    where
      by : (least : Inst) → IsLeast problem held least → weight_of least ≤ light → (conclusions : List Lit) → least.conclusions ≡ conclusions → WithIn problem weight (1 + most_conclusions problem.forms * most) held barred
      by least least_is own [] same = (rejected least, (least_is, same), omega arith)
      by least least_is own (conclusion ∷ conclusions) same =
          let (children, plain, few) = children_within problem weight most held barred least.conclusions (λ lit there more.
          let new = new_small problem real light held least least_is.instance least_is.violated own small apart lit there in
          go lit new.0 new.1 more) in
          let first : Among least.conclusions conclusion = subst (λ lits. Among lits conclusion) (sym same) (inl refl) in
          let some = some_weight problem real least least_is.instance conclusion first in
          let count = inst_most problem least least_is.instance in
          let total = for_each_is most least.conclusions in
          let product : length least.conclusions * most ≤ most_conclusions problem.forms * most = mul-le (length least.conclusions) most (most_conclusions problem.forms) most count (omega arith) in
          (split least children, (least_is, some, omega (arith, own, within), plain), omega (arith, few, total, product))

  finite : (left : ℕ) (held barred : List Lit) → AreSmall (length problem.symbols) light held → Apart held → capacity ≤ length held + left → WithIn problem weight (base ^ left) held barred
  finite zero held barred small apart enough =
      let (shape, is, few) = node 0 held barred small apart (λ lit more_small more_apart more.
      let full = room (length problem.symbols) light (held ++ lit ∷ []) more_small more_apart in
      let longer = length-append held (lit ∷ []) in
      absurd (omega (arith, enough, full, longer))) in
      let one = one-le-pow zero base (omega arith) in
      (shape, is, omega (arith, few, one))
  finite (suc left) held barred small apart enough =
      let (shape, is, few) = node (base ^ left) held barred small apart (λ lit more_small more_apart more.
      let longer = length-append held (lit ∷ []) in
      finite left (held ++ lit ∷ []) more more_small more_apart (omega (arith, enough, longer))) in
      let one = one-le-pow left base (omega arith) in
      let step : 1 + most_conclusions problem.forms * base ^ left ≤ base * base ^ left = one_more (most_conclusions problem.forms) (base ^ left) (most_conclusions problem.forms * base ^ left) one (omega arith) in
      let whole = pow-succ' base left in
      (shape, is, omega (arith, few, step, whole))

  pub enough : (count : ℕ) × Plain problem weight [] [] count × (count ≤ bound problem light)
  enough =
      let (shape, is, few) = finite capacity [] [] (λ lit bad. absurd bad) tt (omega arith) in
      (extends_in shape, (shape, is, refl), few)
