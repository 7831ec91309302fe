-- Clauses that have a fault are not without one.
use Rattle.std.proofs.Common.{◌≡◌, ◌≢◌, ℕ, ◌+◌, ◌≤◌, Bool, true, ◌&&◌, List, ◌∷◌, ◌++◌, length, refl, sym, ◌∙◌, ap, arith, append_assoc, true≢false, nat_le}
use Rattle.std.proofs.lemmas.List.{length-append}
use Rattle.std.proofs.lemmas.List.Folds.{list_all-append}
use Rattle.std.proofs.lemmas.Bool.Decides.{nat_tests}
use Rattle.std.specs.List.{list_all}
use Rattle.mg_word.specs.Forms.{clause_forms, forms_from, forms_of, is_restricted}
use Rattle.mg_word.specs.declared.clause.ClauseLit.{ClauseLit}
use Rattle.mg_word.specs.declared.clause.Clause.{Clause}
use Rattle.mg_word.specs.declared.form.Form.{Form}
use Rattle.mg_word.specs.Facts.{most_forms}
use Rattle.clause_form.specs.Faults.{is_light, is_light_clause, is_faultless, IsFirstHeavy, IsReached, Stands}
use Rattle.clause_form.specs.declared.fault.FormFault.{FormFault}
use Rattle.clause_form.specs.declared.fault.FormFault.TheVariants.{TooHeavy, TooManyForms, NotRestricted, NoMemory}
use Rattle.mg_word.proofs.Members.{both_true}
use Rattle.clause_form.proofs.Among.{not_restricted}
use Rattle.clause_form.proofs.Reaching.{forms_from-append}

-- what holds of all holds of one between others
pub all_within : {X : Type 0} (p : X → Bool) (before : List X) (x : X) (after : List X) → list_all p (before ++ x ∷ after) ≡ true → p x ≡ true
all_within p before x after e =
    (both_true (p x) (list_all p after) (both_true (list_all p before) (list_all p (x ∷ after)) (sym (list_all-append p before (x ∷ after)) ∙ e)).1).0

-- the forms of clauses, at one form of one of them
pub forms_around : (clauses before : List Clause) (clause : Clause) (after : List Clause) (index : ℕ) (earlier : List Form) (form : Form) (later : List Form) → clauses ≡ before ++ clause ∷ after → index ≡ length before → clause_forms index clause ≡ earlier ++ form ∷ later
    → forms_of clauses ≡ (forms_of before ++ earlier) ++ form ∷ (later ++ forms_from (index + 1) after)
forms_around clauses before clause after index earlier form later are at forms_are =
    ap forms_of are ∙ forms_from-append 0 before (clause ∷ after)
    ∙ ap (λ n. forms_of before ++ (clause_forms n clause ++ forms_from (n + 1) after)) (let e : 0 + length before ≡ index = omega arith in e)
    ∙ ap (λ forms. forms_of before ++ (forms ++ forms_from (index + 1) after)) forms_are
    ∙ ap (λ r. forms_of before ++ r) (append_assoc earlier (form ∷ later) (forms_from (index + 1) after))
    ∙ sym (append_assoc (forms_of before) earlier (form ∷ (later ++ forms_from (index + 1) after)))

pub few_of : (n : ℕ) → nat_le n most_forms ≡ true → n ≤ most_forms
few_of n e = grind (arith, nat_tests)

pub heavy_excluded : (literals : List ClauseLit) (position : ℕ) → IsFirstHeavy literals position → list_all is_light literals ≡ true → ⊥
heavy_excluded literals position r e =
    true≢false (sym (all_within is_light r.before r.literal r.after (ap (list_all is_light) (sym r.literals_are) ∙ e)) ∙ r.heavy)

-- a form of clauses without a fault is restricted and not one too many
pub reached_fine : (clauses : List Clause) (index number : ℕ) (form : Form) → IsReached clauses index number form → is_faultless clauses ≡ true → (is_restricted form ≡ true) × (number ≤ most_forms)
reached_fine clauses index number form r e =
    let parts = both_true (list_all is_light_clause clauses) (nat_le (length (forms_of clauses)) most_forms && list_all is_restricted (forms_of clauses)) e in
    let inner = both_true (nat_le (length (forms_of clauses)) most_forms) (list_all is_restricted (forms_of clauses)) parts.1 in
    let around = forms_around clauses r.before r.clause r.after index r.earlier form r.later r.clauses_are r.index_is r.forms_are in
    let rest = r.later ++ forms_from (index + 1) r.after in
    let count : length (forms_of clauses) ≡ length (forms_of r.before) + length r.earlier + length (form ∷ rest) =
    ap length around ∙ length-append (forms_of r.before ++ r.earlier) (form ∷ rest) ∙ ap (λ m. m + length (form ∷ rest)) (length-append (forms_of r.before) r.earlier) in
    let few = few_of (length (forms_of clauses)) inner.0 in
    let step : 1 ≤ length (form ∷ rest) = omega arith in (
      all_within is_restricted (forms_of r.before ++ r.earlier) form rest (ap (list_all is_restricted) (sym around) ∙ inner.1),
      omega (arith, r.number_is),
    )

pub fault_excluded : (clauses : List Clause) (fault : FormFault) → fault ≢ NoMemory → Stands clauses fault → is_faultless clauses ≡ true → ⊥
fault_excluded clauses (TooHeavy index position) known r e =
    let lights = (both_true (list_all is_light_clause clauses) (nat_le (length (forms_of clauses)) most_forms && list_all is_restricted (forms_of clauses)) e).0 in
    heavy_excluded r.clause.literals position r.first (all_within is_light_clause r.before r.clause r.after (ap (list_all is_light_clause) (sym r.clauses_are) ∙ lights))
fault_excluded clauses (TooManyForms index) known r e =
    let fine = (reached_fine clauses index (most_forms + 1) r.0 r.1 e).1 in omega arith
fault_excluded clauses (NotRestricted index number variable) known r e =
    true≢false (not_restricted r.0 variable r.3 (reached_fine clauses index number r.0 r.1 e).0)
fault_excluded clauses NoMemory known r e = known refl
