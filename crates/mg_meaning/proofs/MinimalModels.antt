-- Without items that choose conclusions the minimal sets are the minimal finite Herbrand models.
use Rattle.std.proofs.Common.{◌≡◌, ℕ, ◌+◌, Bool, true, false, true≢false, not, List, [], ◌∷◌, map, All, refl, sym, ap, subst, ◌∙◌, inl, inr, if◌then◌else◌}
use Rattle.std.specs.List.{list_all}
use Rattle.std.proofs.lemmas.List.Elements.{All-head, All-tail}
use Rattle.mg_word.specs.Table.{Symbol}
use Rattle.mg_word.specs.Words.{fits, complement_of, lit_instance, lit_instances}
use Rattle.mg_word.specs.Sets.{same_word, holds, is_part, is_proper_part}
use Rattle.mg_word.specs.Forms.{conclusions_of, is_always_true, plain_form, further_form, clause_forms, forms_from}
use Rattle.mg_word.specs.OrderLaws.{words_equal}
use Rattle.mg_word.specs.Facts.{ProblemData, IsProblem}
use Rattle.mg_word.specs.declared.lit.Lit.{Lit}
use Rattle.mg_word.specs.declared.lit.PatLit.{PatLit}
use Rattle.mg_word.specs.declared.clause.ClauseLit.{ClauseLit}
use Rattle.mg_word.specs.declared.clause.ClauseLit.TheVariants.{True, False, Lit as Literal}
use Rattle.mg_word.specs.declared.clause.Clause.{Clause}
use Rattle.mg_word.specs.declared.form.Form.{Form}
use Rattle.mg_word.specs.declared.form.Inst.{Inst}
use Rattle.mg_word.proofs.Members.{two_cases, both_true, and_true, either_true, or_true, not_true, not_false, never_true, holds_cases, holds_first, holds_later, part_holds, part_from, meets_at, clash_free_from}
use Rattle.mg_meaning.specs.Truth.{is_atom_of, lit_true, atoms_of}
use Rattle.mg_meaning.specs.Refuting.{ground_of}
use Rattle.mg_meaning.specs.Instances.{are_literals, IsInstance}
use Rattle.mg_meaning.specs.Satisfaction.{Satisfies}
use Rattle.mg_meaning.specs.Minimality.{IsMinimal}
use Rattle.mg_meaning.specs.Models.{IsModel, are_atoms_of, IsMinimalModel, HasNoItems, are_positive, positives_of}
use Rattle.mg_meaning.proofs.Lists.{Among, among-append}
use Rattle.mg_meaning.proofs.FormVariables.{numbered_among}
use Rattle.mg_meaning.proofs.ClauseTruth.{has_clause, some_true}
use Rattle.mg_meaning.proofs.Herbrand.{atom_held, herbrand_model}

-- ---- conclusions are positive

patterns_positive : (literals : List ClauseLit) → list_all (λ (lit : PatLit). not lit.negative) (conclusions_of literals) ≡ true
patterns_positive [] = refl
patterns_positive (True ∷ literals) = patterns_positive literals
patterns_positive (False ∷ literals) = patterns_positive literals
patterns_positive (Literal lit ∷ literals) = by lit.negative refl (patterns_positive literals)
  where
    by : (negative : Bool) → lit.negative ≡ negative → list_all (λ (one : PatLit). not one.negative) (conclusions_of literals) ≡ true
        → list_all (λ (one : PatLit). not one.negative) (if negative then conclusions_of literals else lit ∷ conclusions_of literals) ≡ true
    by true is rest = rest
    by false is rest = and_true (not lit.negative) (list_all (λ (one : PatLit). not one.negative) (conclusions_of literals)) (ap not is) rest

abbrev HasPositive : Form → Type 0
HasPositive form = list_all (λ (lit : PatLit). not lit.negative) form.conclusions ≡ true

clause_positive : (index : ℕ) (clause : Clause) (form : Form) → clause.conclude ≡ [] → Among (clause_forms index clause) form → HasPositive form
clause_positive index clause form none there = by (is_always_true clause.literals) there
  where
    by : (always : Bool) → Among (if always then [] else plain_form index clause ∷ map (further_form index clause) clause.conclude) form → HasPositive form
    by true there = absurd there
    by false (inl same) = subst HasPositive same (patterns_positive clause.literals)
    by false (inr later) = let bad : ⊥ = subst (λ (items : List (List ℕ)). Among (map (further_form index clause) items) form) none later in absurd bad

forms_positive : (index : ℕ) (clauses : List Clause) (form : Form) → All (λ (clause : Clause). clause.conclude ≡ []) clauses → Among (forms_from index clauses) form → HasPositive form
forms_positive index [] form none there = absurd there
forms_positive index (clause ∷ clauses) form none there = elim (among-append (clause_forms index clause) (forms_from (index + 1) clauses) form there) [
  | inl own ↦ clause_positive index clause form (All-head (λ (one : Clause). one.conclude ≡ []) clause clauses none) own
  | inr later ↦ forms_positive (index + 1) clauses form (All-tail (λ (one : Clause). one.conclude ≡ []) clause clauses none) later
]

instances_positive : (terms : List (List ℕ)) (patterns : List PatLit) (lit : Lit) → list_all (λ (one : PatLit). not one.negative) patterns ≡ true → holds (lit_instances terms patterns) lit ≡ true → lit.negative ≡ false
instances_positive terms [] lit all there = absurd (true≢false (sym there))
instances_positive terms (first ∷ patterns) lit all there =
    let parts = both_true (not first.negative) (list_all (λ (one : PatLit). not one.negative) patterns) all in
    elim (holds_cases (lit_instance terms first) (lit_instances terms patterns) lit there) [
      | inl same ↦ ap (λ (one : Lit). one.negative) (sym same) ∙ not_true first.negative parts.0
      | inr later ↦ instances_positive terms patterns lit parts.1 later
    ]

conclusion_positive : (problem : ProblemData) → IsProblem problem → HasNoItems problem → (inst : Inst) → IsInstance problem inst → (lit : Lit) → holds inst.conclusions lit ≡ true → lit.negative ≡ false
conclusion_positive problem real none inst is lit there =
    let among : Among (forms_from 0 problem.clauses) is.form = subst (λ all. Among all is.form) real.formed (numbered_among problem.forms inst.form is.form is.is) in
    instances_positive inst.subst is.form.conclusions lit (forms_positive 0 problem.clauses is.form none among) (subst (λ (one : Inst). holds one.conclusions lit ≡ true) is.made there)

-- ---- positive literals and their atoms

abbrev positive : List ℕ → Lit
positive word = record { negative = false; word = word }

is_positive : (lit : Lit) → lit.negative ≡ false → lit ≡ positive lit.word
is_positive lit e = λ i. record { negative = e i; word = lit.word }

positive_at : (set : List Lit) (lit : Lit) → are_positive set ≡ true → holds set lit ≡ true → lit.negative ≡ false
positive_at [] lit all there = absurd (true≢false (sym there))
positive_at (first ∷ set) lit all there =
    let parts = both_true (not first.negative) (are_positive set) all in
    elim (holds_cases first set lit there) [
      | inl same ↦ ap (λ (one : Lit). one.negative) (sym same) ∙ not_true first.negative parts.0
      | inr later ↦ positive_at set lit parts.1 later
    ]

positive_from : (set : List Lit) → ((lit : Lit) → holds set lit ≡ true → lit.negative ≡ false) → are_positive set ≡ true
positive_from [] each = refl
positive_from (first ∷ set) each =
    and_true (not first.negative) (are_positive set) (not_false first.negative (each first (holds_first first set))) (positive_from set (λ lit there. each lit (holds_later first set lit there)))

-- a positive literal is held where its atom is one of the set's
held_atom : (set : List Lit) (lit : Lit) → lit.negative ≡ false → holds set lit ≡ is_atom_of (atoms_of set) lit.word
held_atom set lit e = ap (holds set) (is_positive lit e) ∙ sym (atom_held set lit.word)

positive_true : (atoms : List (List ℕ)) (lit : Lit) → lit.negative ≡ false → lit_true atoms lit ≡ is_atom_of atoms lit.word
positive_true atoms lit e = ap (λ negative. if negative then not (is_atom_of atoms lit.word) else is_atom_of atoms lit.word) e

atoms_of-positives_of : (atoms : List (List ℕ)) → atoms_of (positives_of atoms) ≡ atoms
atoms_of-positives_of [] = refl
atoms_of-positives_of (atom ∷ atoms) = ap (λ more. atom ∷ more) (atoms_of-positives_of atoms)

are_positive-positives_of : (atoms : List (List ℕ)) → are_positive (positives_of atoms) ≡ true
are_positive-positives_of [] = refl
are_positive-positives_of (atom ∷ atoms) = are_positive-positives_of atoms

positives_fit : (table : List Symbol) (atoms : List (List ℕ)) → list_all (fits table) atoms ≡ true → are_literals table (positives_of atoms) ≡ true
positives_fit table [] all = refl
positives_fit table (atom ∷ atoms) all = let parts = both_true (fits table atom) (list_all (fits table) atoms) all in and_true (fits table atom) (are_literals table (positives_of atoms)) parts.0 (positives_fit table atoms parts.1)

atoms_fit : (table : List Symbol) (set : List Lit) → are_literals table set ≡ true → list_all (fits table) (atoms_of set) ≡ true
atoms_fit table [] all = refl
atoms_fit table (lit ∷ set) all = let parts = both_true (fits table lit.word) (are_literals table set) all in by lit.negative parts.0 (atoms_fit table set parts.1)
  where
    by : (negative : Bool) → fits table lit.word ≡ true → list_all (fits table) (atoms_of set) ≡ true → list_all (fits table) (if negative then atoms_of set else lit.word ∷ atoms_of set) ≡ true
    by true own rest = rest
    by false own rest = and_true (fits table lit.word) (list_all (fits table) (atoms_of set)) own rest

-- the positive literals of atoms are held where their atoms are among them
positives_hold : (atoms : List (List ℕ)) (lit : Lit) → lit.negative ≡ false → holds (positives_of atoms) lit ≡ is_atom_of atoms lit.word
positives_hold atoms lit e = held_atom (positives_of atoms) lit e ∙ ap (λ all. is_atom_of all lit.word) (atoms_of-positives_of atoms)

-- ---- lists of atoms as sets

atom_in : (part whole : List (List ℕ)) (word : List ℕ) → are_atoms_of part whole ≡ true → is_atom_of part word ≡ true → is_atom_of whole word ≡ true
atom_in [] whole word all there = absurd (true≢false (sym there))
atom_in (first ∷ part) whole word all there =
    let parts = both_true (is_atom_of whole first) (are_atoms_of part whole) all in
    elim (either_true (same_word first word) (is_atom_of part word) there) [
      | inl same ↦ ap (is_atom_of whole) (sym ((words_equal first word).0 same)) ∙ parts.0
      | inr later ↦ atom_in part whole word parts.1 later
    ]

atoms_from : (part whole : List (List ℕ)) → ((word : List ℕ) → is_atom_of part word ≡ true → is_atom_of whole word ≡ true) → are_atoms_of part whole ≡ true
atoms_from [] whole each = refl
atoms_from (first ∷ part) whole each =
    and_true (is_atom_of whole first) (are_atoms_of part whole) (each first (or_true (same_word first first) (is_atom_of part first) (inl ((words_equal first first).1 refl))))
    (atoms_from part whole (λ word there. each word (or_true (same_word first word) (is_atom_of part word) (inr there))))

atoms_still_fit : (table : List Symbol) (part whole : List (List ℕ)) → are_atoms_of part whole ≡ true → list_all (fits table) whole ≡ true → list_all (fits table) part ≡ true
atoms_still_fit table [] whole all fine = refl
atoms_still_fit table (first ∷ part) whole all fine =
    let parts = both_true (is_atom_of whole first) (are_atoms_of part whole) all in
    and_true (fits table first) (list_all (fits table) part) (own whole first parts.0 fine) (atoms_still_fit table part whole parts.1 fine)
  where
    own : (whole : List (List ℕ)) (word : List ℕ) → is_atom_of whole word ≡ true → list_all (fits table) whole ≡ true → fits table word ≡ true
    own [] word there fine = absurd (true≢false (sym there))
    own (other ∷ whole) word there fine =
        let parts = both_true (fits table other) (list_all (fits table) whole) fine in
        elim (either_true (same_word other word) (is_atom_of whole word) there) [
          | inl same ↦ ap (fits table) (sym ((words_equal other word).0 same)) ∙ parts.0
          | inr later ↦ own whole word later parts.1
        ]

-- ---- sets and models

all_held_true : (set some : List Lit) → are_positive set ≡ true → is_part some set ≡ true → list_all (lit_true (atoms_of set)) some ≡ true
all_held_true set [] all is = refl
all_held_true set (lit ∷ some) all is =
    let parts = both_true (holds set lit) (is_part some set) is in
    let e = positive_at set lit all parts.0 in
    and_true (lit_true (atoms_of set) lit) (list_all (lit_true (atoms_of set)) some) (positive_true (atoms_of set) lit e ∙ (sym (held_atom set lit e) ∙ parts.0)) (all_held_true set some all parts.1)

-- positive literals whose atoms are a model satisfy
pub model_satisfies : (problem : ProblemData) → IsProblem problem → HasNoItems problem → (set : List Lit) → are_positive set ≡ true → are_literals problem.symbols set ≡ true → IsModel (atoms_of set) problem → Satisfies set problem
model_satisfies problem real none set all fine model = record {
  consistent = clash_free_from set (λ lit there. never_true (holds set (complement_of lit)) (λ clash.
      true≢false (sym (ap not (positive_at set lit all there)) ∙ positive_at set (complement_of lit) all clash)));
  fitting = fine;
  obeying = λ inst is premises.
      let clause = has_clause problem real inst is in
      let (lit, there, true_there) = some_true (atoms_of set) inst.conclusions (clause.says (atoms_of set) (model (ground_of problem inst) clause.ground) (all_held_true set inst.premises all premises)) in
      let e = conclusion_positive problem real none inst is lit there in
      meets_at inst.conclusions set lit there (held_atom set lit e ∙ (sym (positive_true (atoms_of set) lit e) ∙ true_there));
}

-- the positive part of a satisfying set satisfies
positive_part : (problem : ProblemData) → IsProblem problem → HasNoItems problem → (set : List Lit) → Satisfies set problem → Satisfies (positives_of (atoms_of set)) problem
positive_part problem real none set satisfied =
    model_satisfies problem real none (positives_of (atoms_of set)) (are_positive-positives_of (atoms_of set)) (positives_fit problem.symbols (atoms_of set) (atoms_fit problem.symbols set satisfied.fitting))
    (subst (λ atoms. IsModel atoms problem) (sym (atoms_of-positives_of (atoms_of set))) (herbrand_model set problem real satisfied))

proper_from : (part set : List Lit) → is_part part set ≡ true → (is_part set part ≡ true → ⊥) → is_proper_part part set ≡ true
proper_from part set is never = and_true (is_part part set) (not (is_part set part)) is (not_false (is_part set part) (never_true (is_part set part) never))

-- positive literals of atoms that are among a set's are a part of it
positives_part : (atoms : List (List ℕ)) (set : List Lit) → are_atoms_of atoms (atoms_of set) ≡ true → is_part (positives_of atoms) set ≡ true
positives_part atoms set are = part_from (positives_of atoms) set (λ lit there.
    let e = positive_at (positives_of atoms) lit (are_positive-positives_of atoms) there in
    held_atom set lit e ∙ atom_in atoms (atoms_of set) lit.word are (sym (positives_hold atoms lit e) ∙ there))

-- and where the set is a part of them, its atoms are among those
atoms_part : (atoms : List (List ℕ)) (set : List Lit) → is_part set (positives_of atoms) ≡ true → are_atoms_of (atoms_of set) atoms ≡ true
atoms_part atoms set is = atoms_from (atoms_of set) atoms (λ word there.
    sym (positives_hold atoms (positive word) refl) ∙ part_holds set (positives_of atoms) (positive word) is (sym (atom_held set word) ∙ there))

same_atoms : (atoms : List (List ℕ)) → are_atoms_of atoms atoms ≡ true
same_atoms atoms = atoms_from atoms atoms (λ word there. there)

pub minimal_positive : (problem : ProblemData) → IsProblem problem → HasNoItems problem → (set : List Lit) → IsMinimal set problem → are_positive set ≡ true
minimal_positive problem real none set minimal =
    elim (two_cases (is_part set (positives_of (atoms_of set)))) [
      | inl whole ↦ positive_from set (λ lit there. positive_at (positives_of (atoms_of set)) lit (are_positive-positives_of (atoms_of set)) (part_holds set (positives_of (atoms_of set)) lit whole there))
      | inr less ↦ absurd (minimal.least (positives_of (atoms_of set)) (proper_from (positives_of (atoms_of set)) set (positives_part (atoms_of set) set (same_atoms (atoms_of set))) (λ e. true≢false (sym e ∙ less)))
          (positive_part problem real none set minimal.satisfying))
    ]

pub minimal_model : (problem : ProblemData) → IsProblem problem → HasNoItems problem → (set : List Lit) → IsMinimal set problem → IsMinimalModel (atoms_of set) problem
minimal_model problem real none set minimal = record {
  model = herbrand_model set problem real minimal.satisfying;
  least = λ part fewer model.
      let parts = both_true (are_atoms_of part (atoms_of set)) (not (are_atoms_of (atoms_of set) part)) fewer in
      let fine = positives_fit problem.symbols part (atoms_still_fit problem.symbols part (atoms_of set) parts.0 (atoms_fit problem.symbols set minimal.satisfying.fitting)) in
      minimal.least (positives_of part) (proper_from (positives_of part) set (positives_part part set parts.0) (λ whole. true≢false (sym (atoms_part part set whole) ∙ not_true (are_atoms_of (atoms_of set) part) parts.1)))
      (model_satisfies problem real none (positives_of part) (are_positive-positives_of part) fine (subst (λ atoms. IsModel atoms problem) (sym (atoms_of-positives_of part)) model));
}

pub model_minimal : (problem : ProblemData) → IsProblem problem → HasNoItems problem → (atoms : List (List ℕ)) → list_all (fits problem.symbols) atoms ≡ true → IsMinimalModel atoms problem → IsMinimal (positives_of atoms) problem
model_minimal problem real none atoms fine minimal = record {
  satisfying = model_satisfies problem real none (positives_of atoms) (are_positive-positives_of atoms) (positives_fit problem.symbols atoms fine) (subst (λ all. IsModel all problem) (sym (atoms_of-positives_of atoms)) minimal.model);
  least = λ part proper satisfied.
      let parts = both_true (is_part part (positives_of atoms)) (not (is_part (positives_of atoms) part)) proper in
      minimal.least (atoms_of part)
      (and_true (are_atoms_of (atoms_of part) atoms) (not (are_atoms_of atoms (atoms_of part))) (atoms_part atoms part parts.0)
      (not_false (are_atoms_of atoms (atoms_of part)) (never_true (are_atoms_of atoms (atoms_of part)) (λ whole. true≢false (sym (positives_part atoms part whole) ∙ not_true (is_part (positives_of atoms) part) parts.1)))))
      (herbrand_model part problem real satisfied);
}
