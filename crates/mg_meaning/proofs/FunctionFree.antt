-- Without functions the plain tree is finite within the weight of the heaviest atom, and the bound is enough extensions.
use Rattle.std.proofs.Common.{◌≡◌, ℕ, zero, suc, ◌+◌, ◌*◌, ◌^◌, ◌≤◌, true, List, [], ◌∷◌, ◌++◌, length, Contains, IsTrue, ◌↔◌, refl, sym, subst, inl, inr, arith}
use Rattle.std.proofs.Math.Nat.{pow-succ', one-le-pow}
use Rattle.std.proofs.lemmas.Nat.{mul-le}
use Rattle.std.proofs.lemmas.List.{length-append}
use Rattle.mg_word.specs.Facts.{ProblemData, IsProblem}
use Rattle.mg_word.specs.declared.lit.Lit.{Lit}
use Rattle.mg_word.specs.declared.form.Inst.{Inst}
use Rattle.mg_meaning.specs.Instances.{IsInstance}
use Rattle.mg_meaning.specs.Violation.{is_violated, heaviest, weight_of, IsLeast}
use Rattle.mg_meaning.specs.Listing.{violated_in}
use Rattle.mg_meaning.specs.Bound.{most_conclusions, bound, HasNoFunctions, greatest_arity}
use Rattle.mg_meaning.specs.PlainTree.{saturated, rejected, split, extends_in, Plain}
use Rattle.mg_meaning.proofs.Lists.{Among, among-append, Apart, Contains-first}
use Rattle.mg_meaning.proofs.Room.{AreSmall, room}
use Rattle.mg_meaning.proofs.Listings.{violated_exact}
use Rattle.mg_meaning.proofs.LeastSteps.{none_listed}
use Rattle.mg_meaning.proofs.LightInsts.{least_exists}
use Rattle.mg_meaning.proofs.Enough.{for_each_is, WithIn, children_within, inst_most, new_small, some_weight, one_more}
use Rattle.mg_meaning.proofs.Flat.{are_constants, tail_of, AreFlat, instance_flat}

-- no literal is heavier than that
heaviest_below : (lits : List Lit) (most : ℕ) → ((lit : Lit) → Among lits lit → length lit.word ≤ most) → heaviest lits ≤ most
heaviest_below [] most each = omega arith
heaviest_below (first ∷ lits) most each =
    let own = each first (inl refl) in
    let rest = heaviest_below lits most (λ lit there. each lit (inr there)) in
    omega (arith, own, rest)

module _ (problem : ProblemData) (real : IsProblem problem) (none : HasNoFunctions problem) (weight : ℕ) (within : 1 + greatest_arity problem.symbols ≤ weight) where
  abbrev light : ℕ
  light = 1 + greatest_arity problem.symbols

  abbrev base : ℕ
  base = most_conclusions problem.forms + 1

  abbrev capacity : ℕ
  capacity = 2 * (length problem.symbols + 1) ^ light

  -- a branch whose literals are flat, small and different
  record IsTame (held : List Lit) : Type 0 where
    pub flat : AreFlat problem.symbols held
    pub small : AreSmall (length problem.symbols) light held
    pub apart : Apart held

  -- each violated instance is light, and its conclusions leave the branch tame
  tame_light : (held : List Lit) (inst : Inst) → IsTame held → IsInstance problem inst → is_violated held inst ≡ true → weight_of inst ≤ light
  tame_light held inst tame is violated = heaviest_below inst.conclusions light (λ lit there. (instance_flat problem real none held inst is violated tame.flat lit there).short)

  still_tame : (held : List Lit) (inst : Inst) → IsTame held → IsInstance problem inst → is_violated held inst ≡ true → (lit : Lit) → Among inst.conclusions lit → IsTame (held ++ lit ∷ [])
  still_tame held inst tame is violated lit there =
      let new = new_small problem real light held inst is violated (tame_light held inst tame is violated) tame.small tame.apart lit there in
      record {
        flat = λ one among. elim (among-append held (lit ∷ []) one among) [
          | inl old ↦ tame.flat one old
          | inr new ↦ elim new [
            | inl same ↦ subst (λ (other : Lit). are_constants problem.symbols (tail_of problem.symbols other.word) ≡ true) same (instance_flat problem real none held inst is violated tame.flat lit there).flat
            | inr bad ↦ absurd bad
          ]
        ];
        small = new.0;
        apart = new.1;
      }

  -- one node, where each tame child is within a number
  node : (most : ℕ) (held barred : List Lit) → IsTame held → ((lit : Lit) → IsTame (held ++ lit ∷ []) → (more : List Lit) → WithIn problem weight most (held ++ lit ∷ []) more)
      → WithIn problem weight (1 + most_conclusions problem.forms * most) held barred
  node most held barred tame go = listed (violated_in problem held) (violated_exact problem real held)
    where
      by : (least : Inst) → IsLeast problem held least → (conclusions : List Lit) → least.conclusions ≡ conclusions → WithIn problem weight (1 + most_conclusions problem.forms * most) held barred
      by least least_is [] same = (rejected least, (least_is, same), omega arith)
      by least least_is (conclusion ∷ conclusions) same =
          let own = tame_light held least tame least_is.instance least_is.violated in
          let (children, plain, few) = children_within problem weight most held barred least.conclusions (λ lit there. go lit (still_tame held least tame least_is.instance least_is.violated lit there)) in
          let first : Among least.conclusions conclusion = subst (λ lits. Among lits conclusion) (sym same) (inl refl) in
          let some = some_weight problem real least least_is.instance conclusion first in
          let count = inst_most problem least least_is.instance in
          let total = for_each_is most least.conclusions in
          let product : length least.conclusions * most ≤ most_conclusions problem.forms * most = mul-le (length least.conclusions) most (most_conclusions problem.forms) most count (omega arith) in
          (split least children, (least_is, some, omega (arith, own, within), plain), omega (arith, few, total, product))

      listed : (insts : List Inst) → ((one : Inst) → Contains insts one ↔ (IsInstance problem one × IsTrue (is_violated held one))) → WithIn problem weight (1 + most_conclusions problem.forms * most) held barred
      listed [] exact = (saturated, none_listed problem held [] exact refl, omega arith)
      listed (inst ∷ insts) exact =
          let own = (exact inst).0 (Contains-first inst insts) in
          let (least, least_is, no_heavier) = least_exists problem real held inst own.0 own.1 in
          by least least_is least.conclusions refl

  finite : (left : ℕ) (held barred : List Lit) → IsTame held → capacity ≤ length held + left → WithIn problem weight (base ^ left) held barred
  finite zero held barred tame enough =
      let (shape, is, few) = node 0 held barred tame (λ lit more_tame more.
      let full = room (length problem.symbols) light (held ++ lit ∷ []) more_tame.small more_tame.apart in
      let longer = length-append held (lit ∷ []) in
      absurd (omega (arith, enough, full, longer))) in
      let one = one-le-pow zero base (omega arith) in
      (shape, is, omega (arith, few, one))
  finite (suc left) held barred tame enough =
      let (shape, is, few) = node (base ^ left) held barred tame (λ lit more_tame more.
      let longer = length-append held (lit ∷ []) in
      finite left (held ++ lit ∷ []) more more_tame (omega (arith, enough, longer))) in
      let one = one-le-pow left base (omega arith) in
      let step : 1 + most_conclusions problem.forms * base ^ left ≤ base * base ^ left = one_more (most_conclusions problem.forms) (base ^ left) (most_conclusions problem.forms * base ^ left) one (omega arith) in
      let whole = pow-succ' base left in
      (shape, is, omega (arith, few, step, whole))

  pub function_free : (count : ℕ) × Plain problem weight [] [] count × (count ≤ bound problem light)
  function_free =
      let (shape, is, few) = finite capacity [] [] (record { flat = λ lit bad. absurd bad; small = λ lit bad. absurd bad; apart = tt }) (omega arith) in
      (extends_in shape, (shape, is, refl), few)
