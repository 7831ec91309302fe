-- The positive literals of a satisfying set are a Herbrand model.
use Rattle.std.proofs.Common.{◌≡◌, ℕ, zero, suc, ◌+◌, Bool, true, false, true≢false, not, ◌||◌, List, [], ◌∷◌, length, Some, slice_get, refl, sym, ap, subst, ◌∙◌, inl, if◌then◌else◌, arith, nat_eq}
use Rattle.std.specs.List.{list_all}
use Rattle.std.specs.Option.{option_map_or}
use Rattle.std.specs.declared.cmp.Ordering.{Ordering}
use Rattle.std.specs.declared.cmp.Ordering.TheVariants.{Less, Equal, Greater}
use Rattle.std.specs.Ordering.{is_eq, ordering_then, bool_cmp}
use Rattle.std.proofs.lemmas.Option.{slice_get-get_or}
use Rattle.std.proofs.lemmas.Bool.{eq-eqb}
use Rattle.mg_word.specs.Orders.{word_cmp}
use Rattle.mg_word.specs.Sets.{holds, is_part, meets}
use Rattle.mg_word.specs.Words.{fits, lit_instance, lit_instances, form_instance, numbered}
use Rattle.mg_word.specs.Forms.{premises_of, conclusions_of, is_always_true, plain_form, clause_forms, forms_from}
use Rattle.mg_word.specs.Facts.{ProblemData, IsProblem}
use Rattle.mg_word.specs.declared.lit.Lit.{Lit}
use Rattle.mg_word.specs.declared.lit.PatLit.{PatLit}
use Rattle.mg_word.specs.declared.clause.Clause.{Clause}
use Rattle.mg_word.specs.declared.clause.ClauseLit.{ClauseLit}
use Rattle.mg_word.specs.declared.clause.ClauseLit.TheVariants.{True, False, Lit as Literal}
use Rattle.mg_word.specs.declared.form.Form.{Form}
use Rattle.mg_word.proofs.Members.{both_false, and_true, or_false}
use Rattle.mg_meaning.specs.Truth.{is_atom_of, lit_true, clause_true, Ground, makes_true, atoms_of}
use Rattle.mg_meaning.specs.Refuting.{IsClauseInstance}
use Rattle.mg_meaning.specs.Satisfaction.{Satisfies}
use Rattle.mg_meaning.proofs.Lists.{Among, among_right, contains_from}

abbrev positive : List ℕ → Lit
positive word = record { negative = false; word = word }

-- an atom is made true where its positive literal is in the set
pub atom_held : (set : List Lit) (word : List ℕ) → is_atom_of (atoms_of set) word ≡ holds set (positive word)
atom_held [] word = refl
atom_held (lit ∷ set) word = by lit.negative (word_cmp lit.word word) (atom_held set word)
  where
    negative_never : (answer : Ordering) → is_eq (ordering_then answer (bool_cmp true false)) ≡ false
    negative_never Less = refl
    negative_never Equal = refl
    negative_never Greater = refl

    positive_same : (answer : Ordering) → is_eq (ordering_then answer (bool_cmp false false)) ≡ is_eq answer
    positive_same Less = refl
    positive_same Equal = refl
    positive_same Greater = refl

    by : (negative : Bool) (answer : Ordering) → is_atom_of (atoms_of set) word ≡ holds set (positive word)
        → is_atom_of (if negative then atoms_of set else lit.word ∷ atoms_of set) word ≡ (is_eq (ordering_then (word_cmp lit.word word) (bool_cmp negative false)) || holds set (positive word))
    by true answer go = go ∙ sym (ap (λ same. same || holds set (positive word)) (negative_never (word_cmp lit.word word)))
    by false answer go = ap (λ same. same || is_atom_of (atoms_of set) word) (sym (positive_same (word_cmp lit.word word))) ∙ ap (λ more. is_eq (ordering_then (word_cmp lit.word word) Equal) || more) go

module _ (set : List Lit) (terms : List (List ℕ)) where
  -- what is left where no literal of a clause is true: its plain form is violated
  pub record IsMissed (literals : List ClauseLit) : Type 0 where
    pub plain : is_always_true literals ≡ false
    pub premises : is_part (lit_instances terms (premises_of literals)) set ≡ true
    pub conclusions : meets (lit_instances terms (conclusions_of literals)) set ≡ false

  one_more : (lit : PatLit) (literals : List ClauseLit) → lit_true (atoms_of set) (lit_instance terms lit) ≡ false → IsMissed literals → IsMissed (Literal lit ∷ literals)
  one_more lit literals untrue rest = by lit.negative refl untrue
    where
      word : List ℕ
      word = (lit_instance terms lit).word

      by : (negative : Bool) → lit.negative ≡ negative
          → (if negative then not (is_atom_of (atoms_of set) (lit_instance terms lit).word) else is_atom_of (atoms_of set) (lit_instance terms lit).word) ≡ false
          → IsMissed (Literal lit ∷ literals)
      by true is e = record {
        plain = rest.plain;
        premises = rw is (and_true (holds set (positive (lit_instance terms lit).word)) (is_part (lit_instances terms (premises_of literals)) set)
            (sym (atom_held set (lit_instance terms lit).word) ∙ undone (is_atom_of (atoms_of set) (lit_instance terms lit).word) e) rest.premises);
        conclusions = rw is rest.conclusions;
      }
        where
          undone : (b : Bool) → not b ≡ false → b ≡ true
          undone true e = refl
          undone false e = absurd (true≢false e)
      by false is e = record {
        plain = rest.plain;
        premises = rw is rest.premises;
        conclusions = rw is (or_false (holds set (positive (lit_instance terms lit).word)) (meets (lit_instances terms (conclusions_of literals)) set)
            (sym (atom_held set (lit_instance terms lit).word) ∙ e) rest.conclusions);
      }

  pub missed_from : (literals : List ClauseLit) → clause_true (atoms_of set) terms literals ≡ false → IsMissed literals
  missed_from [] e = record { plain = refl; premises = refl; conclusions = refl }
  missed_from (True ∷ literals) e = absurd (true≢false e)
  missed_from (False ∷ literals) e = let rest = missed_from literals e in record { plain = rest.plain; premises = rest.premises; conclusions = rest.conclusions }
  missed_from (Literal lit ∷ literals) e =
      let parts = both_false (lit_true (atoms_of set) (lit_instance terms lit)) (clause_true (atoms_of set) terms literals) e in
      one_more lit literals parts.0 (missed_from literals parts.1)

-- the plain form of each clause that is not always true is among the forms
pub plain_among : (at : ℕ) (clauses : List Clause) (k : ℕ) (clause : Clause) → slice_get clauses k ≡ Some clause → is_always_true clause.literals ≡ false → Among (forms_from at clauses) (plain_form (at + k) clause)
plain_among at [] k clause e plain = absurd (let bad : ⊥ = cc in bad)
plain_among at (first ∷ clauses) zero clause e plain =
    let same : first ≡ clause = cc in
    let there : Among (forms_from at (clause ∷ clauses)) (plain_form at clause) = rw plain (inl refl) in
    let here : at + 0 ≡ at = omega arith in
    subst (λ n. Among (forms_from at (first ∷ clauses)) (plain_form n clause)) (sym here) (subst (λ one. Among (forms_from at (one ∷ clauses)) (plain_form at clause)) (sym same) there)
plain_among at (first ∷ clauses) (suc k) clause e plain =
    let here : (at + 1) + k ≡ at + suc k = omega arith in
    among_right (clause_forms at first) (forms_from (at + 1) clauses) (plain_form (at + suc k) clause)
    (subst (λ n. Among (forms_from (at + 1) clauses) (plain_form n clause)) here (plain_among (at + 1) clauses k clause e plain))

-- and so it has a number
pub among_numbered : (forms : List Form) (form : Form) → Among forms form → (number : ℕ) × (numbered forms number ≡ Some form)
among_numbered forms form there =
    let (k, within, is) = contains_from forms form there in
    (suc k, slice_get-get_or forms k form within ∙ ap Some is)

pub herbrand_model : (set : List Lit) (problem : ProblemData) → IsProblem problem → Satisfies set problem → (instance : Ground) → IsClauseInstance problem instance → makes_true problem.clauses (atoms_of set) instance ≡ true
herbrand_model set problem real satisfied instance of =
    by (makes_true problem.clauses (atoms_of set) instance) refl
  where
    never : clause_true (atoms_of set) instance.terms of.clause.literals ≡ false → ⊥
    never e =
        let missed = missed_from set instance.terms of.clause.literals e in
        let there : Among problem.forms (plain_form (0 + instance.clause) of.clause) = subst (λ forms. Among forms (plain_form (0 + instance.clause) of.clause)) (sym real.formed) (plain_among 0 problem.clauses instance.clause of.clause of.is missed.plain) in
        let (number, is) = among_numbered problem.forms (plain_form (0 + instance.clause) of.clause) there in
        let inst = form_instance number instance.terms (plain_form (0 + instance.clause) of.clause) in
        let some = satisfied.obeying inst (record {
          form = plain_form (0 + instance.clause) of.clause;
          is = is;
          terms = and_true (nat_eq (length instance.terms) (length of.clause.variables)) (list_all (fits problem.symbols) instance.terms) (eq-eqb (length instance.terms) (length of.clause.variables) of.variables) of.terms;
          made = refl;
        }) missed.premises in
        true≢false (sym some ∙ missed.conclusions)

    by : (answer : Bool) → makes_true problem.clauses (atoms_of set) instance ≡ answer → answer ≡ true
    by true e = refl
    by false e = absurd (never (sym (ap (λ found. option_map_or (λ (clause : Clause). clause_true (atoms_of set) instance.terms clause.literals) found false) of.is) ∙ e))
