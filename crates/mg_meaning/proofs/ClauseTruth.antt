-- Where instances cover nothing, the instances of their clauses are true under no atoms.
use Rattle.std.proofs.Common.{◌≡◌, ℕ, true, false, true≢false, not, List, [], ◌∷◌, ◌++◌, map, filter, length, All, Some, slice_get, refl, sym, ap, subst, ◌∙◌, inl, inr, nat_eq}
use Rattle.std.specs.List.{list_any, list_all, flat_map}
use Rattle.std.specs.Option.{option_map_or}
use Rattle.std.proofs.lemmas.Bool.{eqb-true}
use Rattle.std.proofs.lemmas.List.Elements.{All-head, All-tail, All-nil, All-cons}
use Rattle.mg_word.specs.Words.{fits, complement_of}
use Rattle.mg_word.specs.Sets.{holds, is_part, is_clash_free}
use Rattle.mg_word.specs.Facts.{ProblemData, IsProblem}
use Rattle.mg_word.specs.declared.lit.Lit.{Lit}
use Rattle.mg_word.specs.declared.clause.Clause.{Clause}
use Rattle.mg_word.specs.declared.form.Form.{Form}
use Rattle.mg_word.specs.declared.form.Inst.{Inst}
use Rattle.mg_word.proofs.Members.{both_true, and_true, either_true, never_true, not_false, meets_at, clash_free_from, holds_first, holds_later}
use Rattle.mg_meaning.specs.Truth.{lit_true, clause_true, makes_true}
use Rattle.mg_meaning.specs.Refuting.{IsClauseInstance, Refutes, ground_of}
use Rattle.mg_meaning.specs.Instances.{IsInstance}
use Rattle.mg_meaning.specs.Violation.{is_violated}
use Rattle.mg_meaning.specs.Excluding.{obeys, Covers}
use Rattle.mg_meaning.proofs.Lists.{Among, among_flat_mapped, among_right}
use Rattle.mg_meaning.proofs.Matchings.{holds_from_among, among_from_holds}
use Rattle.mg_meaning.proofs.Listings.{among-filter, among_filtered}
use Rattle.mg_meaning.proofs.Excluded.{fine_from}
use Rattle.mg_meaning.proofs.FormTruth.{complement_true, form_of_clause}

-- the clause of an instance of a problem
pub record HasClause (problem : ProblemData) (inst : Inst) : Type 0 where
  pub ground : IsClauseInstance problem (ground_of problem inst)
  pub says : (atoms : List (List ℕ)) → makes_true problem.clauses atoms (ground_of problem inst) ≡ true → list_all (lit_true atoms) inst.premises ≡ true → list_any (lit_true atoms) inst.conclusions ≡ true

pub has_clause : (problem : ProblemData) → IsProblem problem → (inst : Inst) → IsInstance problem inst → HasClause problem inst
has_clause problem real inst is =
    let at = form_of_clause problem.clauses problem.forms real.formed inst.form is.form is.is in
    let own : (ground_of problem inst).clause ≡ is.form.clause = ap (λ found. option_map_or (λ (form : Form). form.clause) found 0) is.is in
    let there : slice_get problem.clauses (ground_of problem inst).clause ≡ Some at.clause = ap (slice_get problem.clauses) own ∙ at.there in
    let parts = both_true (nat_eq (length inst.subst) is.form.variables) (list_all (fits problem.symbols) inst.subst) is.terms in
    record {
      ground = record { clause = at.clause; is = there; variables = eqb-true (length inst.subst) is.form.variables parts.0 ∙ at.variables; terms = parts.1 };
      says = λ atoms true_there all.
          let clause : clause_true atoms inst.subst at.clause.literals ≡ true = sym (ap (λ found. option_map_or (λ (clause : Clause). clause_true atoms inst.subst clause.literals) found false) there) ∙ true_there in
          ap (λ (one : Inst). list_any (lit_true atoms) one.conclusions) is.made
          ∙ at.says atoms inst.subst clause (ap (λ (one : Inst). list_all (lit_true atoms) one.premises) (sym is.made) ∙ all);
    }

-- ---- the literals of the instances that are true

abbrev literals_of : List Inst → List Lit
literals_of insts = flat_map (λ inst. inst.premises ++ inst.conclusions) insts

abbrev true_of : List (List ℕ) → List Inst → List Lit
true_of atoms insts = filter (lit_true atoms) (literals_of insts)

true_there : (atoms : List (List ℕ)) (insts : List Inst) (lit : Lit) → holds (true_of atoms insts) lit ≡ true → lit_true atoms lit ≡ true
true_there atoms insts lit there = (among-filter (lit_true atoms) (literals_of insts) lit (among_from_holds (true_of atoms insts) lit there)).1

true_free : (atoms : List (List ℕ)) (insts : List Inst) → is_clash_free (true_of atoms insts) ≡ true
true_free atoms insts = clash_free_from (true_of atoms insts) (λ lit there.
    never_true (holds (true_of atoms insts) (complement_of lit)) (λ clash.
    true≢false (sym (true_there atoms insts (complement_of lit) clash) ∙ (complement_true atoms lit ∙ ap not (true_there atoms insts lit there)))))

all_true : (atoms : List (List ℕ)) (insts : List Inst) (part : List Lit) → is_part part (true_of atoms insts) ≡ true → list_all (lit_true atoms) part ≡ true
all_true atoms insts [] is = refl
all_true atoms insts (lit ∷ part) is =
    let each = both_true (holds (true_of atoms insts) lit) (is_part part (true_of atoms insts)) is in
    and_true (lit_true atoms lit) (list_all (lit_true atoms) part) (true_there atoms insts lit each.0) (all_true atoms insts part each.1)

-- a true one among some literals
pub some_true : (atoms : List (List ℕ)) (some : List Lit) → list_any (lit_true atoms) some ≡ true → (lit : Lit) × (holds some lit ≡ true) × (lit_true atoms lit ≡ true)
some_true atoms [] e = absurd (true≢false (sym e))
some_true atoms (first ∷ some) e = elim (either_true (lit_true atoms first) (list_any (lit_true atoms) some) e) [
  | inl here ↦ (first, holds_first first some, here)
  | inr later ↦
      let (lit, there, is) = some_true atoms some later in
      (lit, holds_later first some lit there, is)
]

obeys_from : (insts : List Inst) (set : List Lit) → ((inst : Inst) → Among insts inst → is_violated set inst ≡ false) → obeys insts set ≡ true
obeys_from [] set each = refl
obeys_from (inst ∷ insts) set each =
    and_true (not (is_violated set inst)) (obeys insts set) (not_false (is_violated set inst) (each inst (inl refl))) (obeys_from insts set (λ one there. each one (inr there)))

made_true : (problem : ProblemData) (atoms : List (List ℕ)) (insts : List Inst) (inst : Inst) → list_all (makes_true problem.clauses atoms) (map (ground_of problem) insts) ≡ true → Among insts inst → makes_true problem.clauses atoms (ground_of problem inst) ≡ true
made_true problem atoms [] inst all there = absurd there
made_true problem atoms (first ∷ insts) inst all (inl same) =
    ap (λ one. makes_true problem.clauses atoms (ground_of problem one)) (sym same)
    ∙ (both_true (makes_true problem.clauses atoms (ground_of problem first)) (list_all (makes_true problem.clauses atoms) (map (ground_of problem) insts)) all).0
made_true problem atoms (first ∷ insts) inst all (inr later) =
    made_true problem atoms insts inst (both_true (makes_true problem.clauses atoms (ground_of problem first)) (list_all (makes_true problem.clauses atoms) (map (ground_of problem) insts)) all).1 later

all_among : (problem : ProblemData) (insts : List Inst) (inst : Inst) → All (IsInstance problem) insts → Among insts inst → IsInstance problem inst
all_among problem [] inst all there = absurd there
all_among problem (first ∷ insts) inst all (inl same) = subst (IsInstance problem) same (All-head (IsInstance problem) first insts all)
all_among problem (first ∷ insts) inst all (inr later) = all_among problem insts inst (All-tail (IsInstance problem) first insts all) later

grounds_are : (problem : ProblemData) → IsProblem problem → (insts : List Inst) → All (IsInstance problem) insts → All (IsClauseInstance problem) (map (ground_of problem) insts)
grounds_are problem real [] all = All-nil (IsClauseInstance problem)
grounds_are problem real (inst ∷ insts) all =
    All-cons (IsClauseInstance problem) (ground_of problem inst) (map (ground_of problem) insts)
    (has_clause problem real inst (All-head (IsInstance problem) inst insts all)).ground
    (grounds_are problem real insts (All-tail (IsInstance problem) inst insts all))

-- instances that cover nothing refute by the instances of their clauses
pub covering_none_refutes : (problem : ProblemData) → IsProblem problem → (insts : List Inst) → All (IsInstance problem) insts → Covers insts [] → Refutes (map (ground_of problem) insts) problem
covering_none_refutes problem real insts all covers = record {
  each = grounds_are problem real insts all;
  contradictory = λ atoms. never_true (list_all (makes_true problem.clauses atoms) (map (ground_of problem) insts)) (λ e.
      true≢false (sym (covers (true_of atoms insts) (true_free atoms insts) (obeys_from insts (true_of atoms insts) (λ inst there. fine atoms e inst there)))));
}
  where
    fine : (atoms : List (List ℕ)) → list_all (makes_true problem.clauses atoms) (map (ground_of problem) insts) ≡ true → (inst : Inst) → Among insts inst → is_violated (true_of atoms insts) inst ≡ false
    fine atoms e inst there = fine_from (true_of atoms insts) inst (λ premises.
        let (lit, among, is) = some_true atoms inst.conclusions ((has_clause problem real inst (all_among problem insts inst all there)).says atoms (made_true problem atoms insts inst e there) (all_true atoms insts inst.premises premises)) in
        let own : Among (literals_of insts) lit =
        among_flat_mapped (λ (one : Inst). one.premises ++ one.conclusions) insts inst lit there (among_right inst.premises inst.conclusions lit (among_from_holds inst.conclusions lit among)) in
        meets_at inst.conclusions (true_of atoms insts) lit among (holds_from_among (true_of atoms insts) lit (among_filtered (lit_true atoms) (literals_of insts) lit own is)))
