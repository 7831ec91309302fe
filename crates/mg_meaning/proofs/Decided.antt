-- Satisfaction and minimality are decided by their tests, and each satisfying set includes a minimal one.
use Rattle.std.proofs.Common.{◌≡◌, ℕ, zero, suc, ◌<◌, true, false, true≢false, not, ◌&&◌, List, [], ◌∷◌, length, Contains, IsTrue, ◌↔◌, refl, sym, ap, subst, ◌∙◌, get_or, ◌⊎◌, inl, inr, arith}
use Rattle.std.specs.List.{list_all}
use Rattle.std.proofs.lemmas.List.Elements.{Contains-get_or}
use Rattle.mg_word.specs.Sets.{is_part, is_proper_part, is_clash_free, is_rising, set_of}
use Rattle.mg_word.specs.Facts.{ProblemData, IsProblem}
use Rattle.mg_word.specs.declared.lit.Lit.{Lit}
use Rattle.mg_word.specs.declared.form.Inst.{Inst}
use Rattle.mg_word.proofs.Members.{two_cases, both_true, and_true, not_true, not_false, never_true, never_false, part_of_itself, part_of_part, part_from}
use Rattle.mg_word.proofs.RisingLists.{rising-set_of, holds-set_of}
use Rattle.mg_meaning.specs.Instances.{are_literals, IsInstance}
use Rattle.mg_meaning.specs.Satisfaction.{Satisfies}
use Rattle.mg_meaning.specs.Minimality.{IsMinimal}
use Rattle.mg_meaning.specs.Violation.{is_violated}
use Rattle.mg_meaning.specs.Listing.{violated_in}
use Rattle.mg_meaning.specs.Parts.{parts_of, IsSmaller}
use Rattle.mg_meaning.specs.Deciding.{is_empty, is_satisfying, is_least}
use Rattle.mg_meaning.proofs.Lists.{Among, among_from, among-flat_map, Contains-first}
use Rattle.mg_meaning.proofs.Excluded.{satisfied_fine, satisfies_where_saturated}
use Rattle.mg_meaning.proofs.Listings.{violated_exact}
use Rattle.mg_meaning.proofs.LeastSteps.{none_listed}
use Rattle.mg_meaning.proofs.PartsTried.{minimal_test, satisfies_same}

empty_from : (insts : List Inst) → is_empty insts ≡ true → insts ≡ []
empty_from [] e = refl
empty_from (inst ∷ insts) e = absurd (true≢false (sym e))

none_from : (problem : ProblemData) (set : List Lit) (insts : List Inst) → ((inst : Inst) → Contains insts inst ↔ (IsInstance problem inst × IsTrue (is_violated set inst))) → Satisfies set problem → is_empty insts ≡ true
none_from problem set [] exact satisfied = refl
none_from problem set (inst ∷ insts) exact satisfied =
    let own = (exact inst).0 (Contains-first inst insts) in
    absurd (true≢false (sym own.1 ∙ satisfied_fine set problem satisfied inst own.0))

pub satisfying_decided : (problem : ProblemData) → IsProblem problem → (set : List Lit) → IsTrue (is_satisfying problem set) ↔ Satisfies set problem
satisfying_decided problem real set = (
  (λ e.
      let first = both_true (is_clash_free set) (are_literals problem.symbols set && is_empty (violated_in problem set)) e in
      let second = both_true (are_literals problem.symbols set) (is_empty (violated_in problem set)) first.1 in
      (satisfies_where_saturated set problem).1 (first.0, second.0, none_listed problem set (violated_in problem set) (violated_exact problem real set) (empty_from (violated_in problem set) second.1))),
  (λ satisfied.
      and_true (is_clash_free set) (are_literals problem.symbols set && is_empty (violated_in problem set)) satisfied.consistent
      (and_true (are_literals problem.symbols set) (is_empty (violated_in problem set)) satisfied.fitting (none_from problem set (violated_in problem set) (violated_exact problem real set) satisfied))),
)

-- of some parts, the first that is smaller, or none is
seek_smaller : (problem : ProblemData) → IsProblem problem → (set : List Lit) (parts : List (List Lit))
    → (list_all (λ part. not (is_proper_part part set && is_satisfying problem part)) parts ≡ true → (part : List Lit) → Among parts part → IsSmaller problem set part → ⊥)
    × (list_all (λ part. not (is_proper_part part set && is_satisfying problem part)) parts ≡ false → (part : List Lit) × Among parts part × IsSmaller problem set part)
seek_smaller problem real set [] = ((λ e part there smaller. there), (λ e. absurd (true≢false e)))
seek_smaller problem real set (first ∷ parts) =
    let rest = seek_smaller problem real set parts in (
      (λ e part there smaller.
          let each = both_true (not (is_proper_part first set && is_satisfying problem first)) (list_all (λ part. not (is_proper_part part set && is_satisfying problem part)) parts) e in
          elim there [
            | inl same ↦
                let own : IsSmaller problem set first = subst (IsSmaller problem set) (sym same) smaller in
                true≢false (sym (and_true (is_proper_part first set) (is_satisfying problem first) own.proper ((satisfying_decided problem real first).1 own.satisfying)) ∙ not_true (is_proper_part first set && is_satisfying problem first) each.0)
            | inr later ↦ rest.0 each.1 part later smaller
          ]),
      (λ e. elim (two_cases (is_proper_part first set && is_satisfying problem first)) [
        | inl is ↦
            let both = both_true (is_proper_part first set) (is_satisfying problem first) is in
            (first, inl refl, record { proper = both.0; satisfying = (satisfying_decided problem real first).0 both.1 })
        | inr out ↦
            let later : list_all (λ part. not (is_proper_part part set && is_satisfying problem part)) parts ≡ false = rw out at e in
            let (part, there, smaller) = rest.1 later in
            (part, inr there, smaller)
      ]),
    )

pub least_decided : (problem : ProblemData) → IsProblem problem → (set : List Lit) → Satisfies set problem → IsTrue (is_least problem set) ↔ IsMinimal set problem
least_decided problem real set satisfied = (
  (λ e. (minimal_test problem set false satisfied (λ bad. absurd (true≢false (sym bad)))
      (λ _ k d within smaller. (seek_smaller problem real set (parts_of set)).0 e (get_or (parts_of set) k d) (among_from (parts_of set) (get_or (parts_of set) k d) (Contains-get_or (parts_of set) k d within)) smaller)).0 refl),
  (λ minimal. never_false (is_least problem set) (λ out.
      let (part, there, smaller) = (seek_smaller problem real set (parts_of set)).1 out in minimal.least part smaller.proper smaller.satisfying)),
)

-- a part is no longer than the list, and only the list itself is as long
part_shorter : (lits part : List Lit) → Among (parts_of lits) part → (part ≡ lits) ⊎ (length part < length lits)
part_shorter [] part (inl same) = inl (sym same)
part_shorter [] part (inr bad) = absurd bad
part_shorter (lit ∷ lits) part there =
    let (own, among, is) = among-flat_map (λ part. (lit ∷ part) ∷ part ∷ []) (parts_of lits) part there in
    by own (part_shorter lits own among) is
  where
    by : (own : List Lit) → (own ≡ lits) ⊎ (length own < length lits) → Among ((lit ∷ own) ∷ own ∷ []) part → (part ≡ lit ∷ lits) ⊎ (length part < length (lit ∷ lits))
    by own (inl same) (inl is) = inl (sym is ∙ ap (λ rest. lit ∷ rest) same)
    by own (inl same) (inr (inl is)) = inr (let size : length part ≡ length lits = ap length (sym is ∙ same) in omega arith)
    by own (inl same) (inr (inr bad)) = absurd bad
    by own (inr less) (inl is) = inr (let size : length part ≡ suc (length own) = ap length (sym is) in omega arith)
    by own (inr less) (inr (inl is)) = inr (let size : length part ≡ length own = ap length (sym is) in omega arith)
    by own (inr less) (inr (inr bad)) = absurd bad

not_proper : (set : List Lit) → is_proper_part set set ≡ true → ⊥
not_proper set e = true≢false (sym (part_of_itself set) ∙ not_true (is_part set set) (both_true (is_part set set) (not (is_part set set)) e).1)

-- a set that is not minimal has a smaller one, and so on down
below : (problem : ProblemData) → IsProblem problem → (fuel : ℕ) (set : List Lit) → length set < fuel → Satisfies set problem → (least : List Lit) × IsMinimal least problem × (is_part least set ≡ true)
below problem real zero set short satisfied = absurd (omega arith)
below problem real (suc fuel) set short satisfied = by (two_cases (is_least problem set)) (below problem real fuel)
  where
    by : (is_least problem set ≡ true) ⊎ (is_least problem set ≡ false) → ((part : List Lit) → length part < fuel → Satisfies part problem → (least : List Lit) × IsMinimal least problem × (is_part least part ≡ true))
        → (least : List Lit) × IsMinimal least problem × (is_part least set ≡ true)
    by (inl is) go = (set, (least_decided problem real set satisfied).0 is, part_of_itself set)
    by (inr out) go =
        let (part, there, smaller) = (seek_smaller problem real set (parts_of set)).1 out in
        let shorter : length part < fuel = elim (part_shorter set part there) [
          | inl same ↦ absurd (not_proper set (subst (λ one. is_proper_part one set ≡ true) same smaller.proper))
          | inr less ↦ omega (arith, less, short)
        ] in
        let (least, minimal, inside) = go part shorter smaller.satisfying in
        (least, minimal, part_of_part least part set inside (both_true (is_part part set) (not (is_part set part)) smaller.proper).0)

minimal_same : (problem : ProblemData) (a b : List Lit) → is_part a b ≡ true → is_part b a ≡ true → IsMinimal b problem → IsMinimal a problem
minimal_same problem a b one two minimal = record {
  satisfying = satisfies_same problem a b one two minimal.satisfying;
  least = λ part proper satisfied.
      let parts = both_true (is_part part a) (not (is_part a part)) proper in
      minimal.least part
      (and_true (is_part part b) (not (is_part b part)) (part_of_part part a b parts.0 one)
      (not_false (is_part b part) (never_true (is_part b part) (λ all. true≢false (sym (part_of_part a b part one all) ∙ not_true (is_part a part) parts.1)))))
      satisfied;
}

-- each satisfying set includes a minimal one, as a rising list
pub minimal_below : (problem : ProblemData) → IsProblem problem → (set : List Lit) → Satisfies set problem → (least : List Lit) × IsTrue (is_rising least) × IsMinimal least problem × IsTrue (is_part least set)
minimal_below problem real set satisfied =
    let (least, minimal, inside) = below problem real (suc (length set)) set (omega arith) satisfied in
    let there : is_part (set_of least) least ≡ true = part_from (set_of least) least (λ lit held. sym (holds-set_of least lit) ∙ held) in
    let back : is_part least (set_of least) ≡ true = part_from least (set_of least) (λ lit held. holds-set_of least lit ∙ held) in
    (set_of least, rising-set_of least, minimal_same problem (set_of least) least there back minimal, part_of_part (set_of least) least set there inside)
