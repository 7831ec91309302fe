-- What the arrow forms of clauses say: where a clause is true and all premises of a form are, some conclusion is.
use Rattle.std.proofs.Common.{◌≡◌, ℕ, zero, suc, ◌+◌, Bool, true, false, true≢false, not, List, [], ◌∷◌, map, length, Some, slice_get, refl, sym, ap, subst, ◌∙◌, inl, inr, if◌then◌else◌, arith}
use Rattle.std.specs.List.{list_any, list_all}
use Rattle.mg_word.specs.Table.{Symbol}
use Rattle.mg_word.specs.Words.{numbered, pattern_fits, complement_of, lit_instance, lit_instances}
use Rattle.mg_word.specs.Forms.{opposite, premises_of, conclusions_of, is_among, chosen_from, others_from, is_always_true, plain_form, further_form, clause_forms, forms_from, forms_of}
use Rattle.mg_word.specs.Facts.{literal_fits}
use Rattle.mg_word.specs.declared.lit.Lit.{Lit}
use Rattle.mg_word.specs.declared.lit.PatLit.{PatLit}
use Rattle.mg_word.specs.declared.clause.Clause.{Clause}
use Rattle.mg_word.specs.declared.clause.ClauseLit.{ClauseLit}
use Rattle.mg_word.specs.declared.clause.ClauseLit.TheVariants.{True, False, Lit as Literal}
use Rattle.mg_word.specs.declared.form.Form.{Form}
use Rattle.mg_word.proofs.Members.{both_true, and_true, either_true, or_true}
use Rattle.mg_meaning.specs.Truth.{is_atom_of, lit_true, clause_true}
use Rattle.mg_meaning.proofs.Lists.{Among, among-append, among-map}
use Rattle.mg_meaning.proofs.FormVariables.{numbered_among}

-- of a literal and its complement one is true
pub complement_true : (atoms : List (List ℕ)) (lit : Lit) → lit_true atoms (complement_of lit) ≡ not (lit_true atoms lit)
complement_true atoms lit = by lit.negative (is_atom_of atoms lit.word)
  where
    by : (negative atom : Bool) → (if not negative then not atom else atom) ≡ not (if negative then not atom else atom)
    by true true = refl
    by true false = refl
    by false atom = refl

-- where the clause is true and all premises are, some conclusion is
abbrev pub SaysSame : List ClauseLit → List PatLit → List PatLit → Type 0
SaysSame literals premises conclusions =
    (atoms terms : List (List ℕ)) → clause_true atoms terms literals ≡ true → list_all (lit_true atoms) (lit_instances terms premises) ≡ true → list_any (lit_true atoms) (lit_instances terms conclusions) ≡ true

-- one literal more, which is a conclusion, or whose complement is a premise
literal_says : (lit : PatLit) (literals : List ClauseLit) (chosen : Bool) (premises conclusions : List PatLit) → SaysSame literals premises conclusions
    → SaysSame (Literal lit ∷ literals) (if chosen then premises else opposite lit ∷ premises) (if chosen then lit ∷ conclusions else conclusions)
literal_says lit literals true premises conclusions says atoms terms clause all =
    or_true (lit_true atoms (lit_instance terms lit)) (list_any (lit_true atoms) (lit_instances terms conclusions))
    (elim (either_true (lit_true atoms (lit_instance terms lit)) (clause_true atoms terms literals) clause) [
      | inl here ↦ inl here
      | inr rest ↦ inr (says atoms terms rest all)
    ])
literal_says lit literals false premises conclusions says atoms terms clause all =
    let each = both_true (lit_true atoms (lit_instance terms (opposite lit))) (list_all (lit_true atoms) (lit_instances terms premises)) all in
    elim (either_true (lit_true atoms (lit_instance terms lit)) (clause_true atoms terms literals) clause) [
      | inl here ↦ absurd (true≢false (sym each.0 ∙ (complement_true atoms (lit_instance terms lit) ∙ ap not here)))
      | inr rest ↦ says atoms terms rest each.1
    ]

plain_says : (literals : List ClauseLit) → is_always_true literals ≡ false → SaysSame literals (premises_of literals) (conclusions_of literals)
plain_says [] plain = λ atoms terms clause all. absurd (true≢false (sym clause))
plain_says (True ∷ literals) plain = absurd (true≢false plain)
plain_says (False ∷ literals) plain = plain_says literals plain
plain_says (Literal lit ∷ literals) plain = by lit.negative (plain_says literals plain)
  where
    by : (negative : Bool) → SaysSame literals (premises_of literals) (conclusions_of literals)
        → SaysSame (Literal lit ∷ literals) (if negative then opposite lit ∷ premises_of literals else premises_of literals) (if negative then conclusions_of literals else lit ∷ conclusions_of literals)
    by true says = literal_says lit literals false (premises_of literals) (conclusions_of literals) says
    by false says = literal_says lit literals true (premises_of literals) (conclusions_of literals) says

further_says : (at : ℕ) (chosen : List ℕ) (literals : List ClauseLit) → is_always_true literals ≡ false → SaysSame literals (others_from at chosen literals) (chosen_from at chosen literals)
further_says at chosen [] plain = λ atoms terms clause all. absurd (true≢false (sym clause))
further_says at chosen (True ∷ literals) plain = absurd (true≢false plain)
further_says at chosen (False ∷ literals) plain = further_says (at + 1) chosen literals plain
further_says at chosen (Literal lit ∷ literals) plain = literal_says lit literals (is_among chosen at) (others_from (at + 1) chosen literals) (chosen_from (at + 1) chosen literals) (further_says (at + 1) chosen literals plain)

plain_fits : (table : List Symbol) (variables : ℕ) (literals : List ClauseLit) → list_all (literal_fits table variables) literals ≡ true → list_all (λ (lit : PatLit). pattern_fits table variables lit.pattern) (conclusions_of literals) ≡ true
plain_fits table variables [] all = refl
plain_fits table variables (True ∷ literals) all = plain_fits table variables literals all
plain_fits table variables (False ∷ literals) all = plain_fits table variables literals all
plain_fits table variables (Literal lit ∷ literals) all =
    let parts = both_true (pattern_fits table variables lit.pattern) (list_all (literal_fits table variables) literals) all in
    by lit.negative parts.0 (plain_fits table variables literals parts.1)
  where
    by : (negative : Bool) → pattern_fits table variables lit.pattern ≡ true → list_all (λ (one : PatLit). pattern_fits table variables one.pattern) (conclusions_of literals) ≡ true
        → list_all (λ (one : PatLit). pattern_fits table variables one.pattern) (if negative then conclusions_of literals else lit ∷ conclusions_of literals) ≡ true
    by true own rest = rest
    by false own rest = and_true (pattern_fits table variables lit.pattern) (list_all (λ (one : PatLit). pattern_fits table variables one.pattern) (conclusions_of literals)) own rest

further_fits : (table : List Symbol) (variables at : ℕ) (chosen : List ℕ) (literals : List ClauseLit) → list_all (literal_fits table variables) literals ≡ true → list_all (λ (lit : PatLit). pattern_fits table variables lit.pattern) (chosen_from at chosen literals) ≡ true
further_fits table variables at chosen [] all = refl
further_fits table variables at chosen (True ∷ literals) all = further_fits table variables (at + 1) chosen literals all
further_fits table variables at chosen (False ∷ literals) all = further_fits table variables (at + 1) chosen literals all
further_fits table variables at chosen (Literal lit ∷ literals) all =
    let parts = both_true (pattern_fits table variables lit.pattern) (list_all (literal_fits table variables) literals) all in
    by (is_among chosen at) parts.0 (further_fits table variables (at + 1) chosen literals parts.1)
  where
    by : (kept : Bool) → pattern_fits table variables lit.pattern ≡ true → list_all (λ (one : PatLit). pattern_fits table variables one.pattern) (chosen_from (at + 1) chosen literals) ≡ true
        → list_all (λ (one : PatLit). pattern_fits table variables one.pattern) (if kept then lit ∷ chosen_from (at + 1) chosen literals else chosen_from (at + 1) chosen literals) ≡ true
    by true own rest = and_true (pattern_fits table variables lit.pattern) (list_all (λ (one : PatLit). pattern_fits table variables one.pattern) (chosen_from (at + 1) chosen literals)) own rest
    by false own rest = rest

-- a form of the clause at this place
pub record IsFormAt (clauses : List Clause) (place : ℕ) (form : Form) : Type 0 where
  pub clause : Clause
  pub there : slice_get clauses place ≡ Some clause
  pub variables : form.variables ≡ length clause.variables
  pub says : SaysSame clause.literals form.premises form.conclusions
  -- its conclusions are over the symbols where the clause's literals are
  pub fitting : (table : List Symbol) (variables : ℕ) → list_all (literal_fits table variables) clause.literals ≡ true → list_all (λ (lit : PatLit). pattern_fits table variables lit.pattern) form.conclusions ≡ true

clause_form_at : (index : ℕ) (clause : Clause) (clauses : List Clause) (form : Form) → Among (clause_forms index clause) form → (form.clause ≡ index) × IsFormAt (clause ∷ clauses) 0 form
clause_form_at index clause clauses form is = by (is_always_true clause.literals) refl is
  where
    by : (always : Bool) → is_always_true clause.literals ≡ always → Among (if always then [] else plain_form index clause ∷ map (further_form index clause) clause.conclude) form → (form.clause ≡ index) × IsFormAt (clause ∷ clauses) 0 form
    by true e is = absurd is
    by false e (inl same) = (
      ap (λ (one : Form). one.clause) (sym same),
      subst (IsFormAt (clause ∷ clauses) 0) same (record { clause = clause; there = refl; variables = refl; says = plain_says clause.literals e; fitting = λ table variables. plain_fits table variables clause.literals }),
    )
    by false e (inr later) =
        let (chosen, item, same) = among-map (further_form index clause) clause.conclude form later in (
          ap (λ (one : Form). one.clause) (sym same),
          subst (IsFormAt (clause ∷ clauses) 0) same (record { clause = clause; there = refl; variables = refl; says = further_says 1 chosen clause.literals e; fitting = λ table variables. further_fits table variables 1 chosen clause.literals }),
        )

form_at : (index : ℕ) (clauses : List Clause) (form : Form) → Among (forms_from index clauses) form → (place : ℕ) × (form.clause ≡ index + place) × IsFormAt clauses place form
form_at index [] form there = absurd there
form_at index (clause ∷ clauses) form there = elim (among-append (clause_forms index clause) (forms_from (index + 1) clauses) form there) [
  | inl own ↦
      let (number, is) = clause_form_at index clause clauses form own in
      (zero, omega (arith, number), is)
  | inr later ↦
      let (place, number, is) = form_at (index + 1) clauses form later in
      (suc place, omega (arith, number), record { clause = is.clause; there = is.there; variables = is.variables; says = is.says; fitting = is.fitting })
]

-- each numbered form is one of the clause that it names
pub form_of_clause : (clauses : List Clause) (forms : List Form) → forms ≡ forms_of clauses → (number : ℕ) (form : Form) → numbered forms number ≡ Some form → IsFormAt clauses form.clause form
form_of_clause clauses forms formed number form at =
    let (place, same, is) = form_at 0 clauses form (subst (λ all. Among all form) formed (numbered_among forms number form at)) in
    subst (λ one. IsFormAt clauses one form) (let own : place ≡ form.clause = omega (arith, same) in own) is
