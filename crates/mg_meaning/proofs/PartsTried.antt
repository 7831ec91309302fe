-- Trying all parts of a list finds a smaller satisfying set where there is one.
use Rattle.std.proofs.Common.{◌≡◌, Bool, true, false, true≢false, not, cond, List, [], ◌∷◌, filter, All, ◌↔◌, refl, sym, ap, ◌∙◌, inl, inr}
use Rattle.std.proofs.lemmas.List.Elements.{All-contains}
use Rattle.mg_word.specs.Table.{Symbol}
use Rattle.mg_word.specs.Words.{fits}
use Rattle.mg_word.specs.Sets.{holds, is_part, is_proper_part}
use Rattle.mg_word.specs.Facts.{ProblemData}
use Rattle.mg_word.specs.declared.lit.Lit.{Lit}
use Rattle.mg_word.proofs.Members.{both_true, and_true, not_true, not_false, never_true, holds_cases, part_from, part_holds, part_of_itself, part_of_part, meets_more, clash_free_part}
use Rattle.mg_meaning.specs.Instances.{are_literals}
use Rattle.mg_meaning.specs.Satisfaction.{Satisfies}
use Rattle.mg_meaning.specs.Minimality.{IsMinimal}
use Rattle.mg_meaning.specs.Parts.{parts_of, IsSmaller}
use Rattle.mg_meaning.proofs.Lists.{Among, contains_from, among_flat_mapped}
use Rattle.mg_meaning.proofs.Listings.{among-filter, among_filtered}
use Rattle.mg_meaning.proofs.Matchings.{holds_from_among, among_from_holds}

-- the literals of a list that pass a test are one of its parts
pub parts_there : (test : Lit → Bool) (lits : List Lit) → Among (parts_of lits) (filter test lits)
parts_there test [] = inl refl
parts_there test (lit ∷ lits) =
    among_flat_mapped (λ part. (lit ∷ part) ∷ part ∷ []) (parts_of lits) (filter test lits) (cond (test lit) (lit ∷ filter test lits) (filter test lits)) (parts_there test lits) (by (test lit))
  where
    by : (kept : Bool) → Among ((lit ∷ filter test lits) ∷ filter test lits ∷ []) (cond kept (lit ∷ filter test lits) (filter test lits))
    by true = inl refl
    by false = inr (inl refl)

literals_part : (table : List Symbol) (part whole : List Lit) → is_part part whole ≡ true → are_literals table whole ≡ true → are_literals table part ≡ true
literals_part table [] whole is all = refl
literals_part table (lit ∷ part) whole is all =
    let each = both_true (holds whole lit) (is_part part whole) is in
    and_true (fits table lit.word) (are_literals table part) (one whole lit each.0 all) (literals_part table part whole each.1 all)
  where
    one : (some : List Lit) (lit : Lit) → holds some lit ≡ true → are_literals table some ≡ true → fits table lit.word ≡ true
    one [] lit there all = absurd (true≢false (sym there))
    one (first ∷ some) lit there all =
        let parts = both_true (fits table first.word) (are_literals table some) all in
        elim (holds_cases first some lit there) [
          | inl same ↦ ap (λ (held : Lit). fits table held.word) (sym same) ∙ parts.0
          | inr later ↦ one some lit later parts.1
        ]

-- whether a set satisfies a problem is a matter of its members
pub satisfies_same : (problem : ProblemData) (a b : List Lit) → is_part a b ≡ true → is_part b a ≡ true → Satisfies b problem → Satisfies a problem
satisfies_same problem a b one two satisfied = record {
  consistent = clash_free_part a b one satisfied.consistent;
  fitting = literals_part problem.symbols a b one satisfied.fitting;
  obeying = λ inst real premises. meets_more inst.conclusions inst.conclusions b a (part_of_itself inst.conclusions) two (satisfied.obeying inst real (part_of_part inst.premises a b premises one));
}

-- of the parts of the set, that with the members of a smaller one is smaller too
pub smaller_part : (problem : ProblemData) (set part : List Lit) → is_proper_part part set ≡ true → Satisfies part problem → IsSmaller problem set (filter (holds part) set)
smaller_part problem set part proper satisfied = record {
  proper = and_true (is_part own set) (not (is_part set own)) inside (not_false (is_part set own) (never_true (is_part set own) (λ all.
      true≢false (sym (part_of_part set own part all back) ∙ not_true (is_part set part) parts.1))));
  satisfying = satisfies_same problem own part back forth satisfied;
}
  where
    own : List Lit
    own = filter (holds part) set

    parts : (is_part part set ≡ true) × (not (is_part set part) ≡ true)
    parts = both_true (is_part part set) (not (is_part set part)) proper

    inside : is_part (filter (holds part) set) set ≡ true
    inside = part_from (filter (holds part) set) set (λ lit there. holds_from_among set lit (among-filter (holds part) set lit (among_from_holds (filter (holds part) set) lit there)).0)

    back : is_part (filter (holds part) set) part ≡ true
    back = part_from (filter (holds part) set) part (λ lit there. (among-filter (holds part) set lit (among_from_holds (filter (holds part) set) lit there)).1)

    forth : is_part part (filter (holds part) set) ≡ true
    forth = part_from part (filter (holds part) set) (λ lit there.
        holds_from_among (filter (holds part) set) lit (among_filtered (holds part) set lit (among_from_holds set lit (part_holds part set lit (both_true (is_part part set) (not (is_part set part)) proper).0 there)) there))

-- the answer of the trial is right
pub minimal_test : (problem : ProblemData) (set : List Lit) (smaller : Bool) → Satisfies set problem → (smaller ≡ true → (part : List Lit) × IsSmaller problem set part)
    → (smaller ≡ false → All (λ part. IsSmaller problem set part → ⊥) (parts_of set)) → (not smaller ≡ true) ↔ IsMinimal set problem
minimal_test problem set smaller satisfied found none = (
  (λ e. record {
    satisfying = satisfied;
    least = λ part proper satisfying.
        All-contains (λ one. IsSmaller problem set one → ⊥) (parts_of set) (filter (holds part) set) (none (not_true smaller e)) (contains_from (parts_of set) (filter (holds part) set) (parts_there (holds part) set))
        (smaller_part problem set part proper satisfying);
  }),
  (λ minimal. not_false smaller (never_true smaller (λ e. let (part, is) = found e in minimal.least part is.proper is.satisfying))),
)
