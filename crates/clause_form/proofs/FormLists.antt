-- The forms of a clause, one after another.
use Rattle.std.proofs.Common.{◌≡◌, ℕ, ◌+◌, ◌<◌, true, false, List, [], ◌∷◌, ◌++◌, length, get_or, take, drop, map, refl, sym, ◌∙◌, ap, subst, if◌then◌else◌}
use Rattle.std.proofs.lemmas.List.{take_more, map-append, length-append}
use Rattle.std.proofs.lemmas.List.Folds.{list_all-append}
use Rattle.std.specs.List.{list_all}
use Rattle.mg_word.specs.Forms.{plain_form, further_form, clause_forms, is_always_true, is_restricted}
use Rattle.mg_word.specs.declared.clause.Clause.{Clause}
use Rattle.mg_word.specs.declared.form.Form.{Form}
use Rattle.clause_form.specs.Faults.{is_light_clause}
use Rattle.clause_form.specs.Building.{IsRefused, RefusesForm, RefusesClause}
use Rattle.clause_form.specs.declared.fault.FormFault.{FormFault}
use Rattle.clause_form.specs.declared.fault.FormFault.TheVariants.{TooHeavy, TooManyForms, NotRestricted, NoMemory}
use Rattle.clause_form.proofs.Splits.{split_at}

-- the plain form and the first so many further forms
abbrev pub first_forms : ℕ → Clause → ℕ → List Form
first_forms index clause n = plain_form index clause ∷ map (further_form index clause) (take n clause.conclude)

pub all_first : (index : ℕ) (clause : Clause) → is_always_true clause.literals ≡ false → clause_forms index clause ≡ plain_form index clause ∷ map (further_form index clause) clause.conclude
all_first index clause e = ap (λ b. if b then [] else plain_form index clause ∷ map (further_form index clause) clause.conclude) e

pub none_first : (index : ℕ) (clause : Clause) → is_always_true clause.literals ≡ true → clause_forms index clause ≡ []
none_first index clause e = ap (λ b. if b then [] else plain_form index clause ∷ map (further_form index clause) clause.conclude) e

pub first_forms-next : (index : ℕ) (clause : Clause) (n : ℕ) (chosen : List ℕ) → n < length clause.conclude → chosen ≡ get_or clause.conclude n chosen → first_forms index clause (n + 1) ≡ first_forms index clause n ++ further_form index clause chosen ∷ []
first_forms-next index clause n chosen h is =
    ap (λ r. plain_form index clause ∷ map (further_form index clause) r) (take_more clause.conclude n chosen h ∙ ap (λ x. take n clause.conclude ++ x ∷ []) (sym is))
    ∙ ap (λ r. plain_form index clause ∷ r) (map-append (further_form index clause) (take n clause.conclude) (chosen ∷ []))

pub first_forms-split : (index : ℕ) (clause : Clause) (n : ℕ) (chosen : List ℕ) → is_always_true clause.literals ≡ false → n < length clause.conclude → chosen ≡ get_or clause.conclude n chosen
    → clause_forms index clause ≡ first_forms index clause n ++ further_form index clause chosen ∷ map (further_form index clause) (drop (n + 1) clause.conclude)
first_forms-split index clause n chosen e h is =
    all_first index clause e
    ∙ ap (λ r. plain_form index clause ∷ map (further_form index clause) r) (split_at clause.conclude n chosen h is)
    ∙ ap (λ r. plain_form index clause ∷ r) (map-append (further_form index clause) (take n clause.conclude) (chosen ∷ drop (n + 1) clause.conclude))

-- a form that may not come after the others and these
pub refused_at : (all earlier : List Form) (form : Form) (later old others : List Form) (fault : FormFault) → all ≡ earlier ++ form ∷ later → list_all is_restricted earlier ≡ true → others ≡ old ++ earlier → IsRefused (length others) form fault → RefusesForm (length old) all fault
refused_at all earlier form later old others fault are restricted is refused = record {
  earlier = earlier;
  form = form;
  later = later;
  forms_are = are;
  restricted = restricted;
  refused = let e : length others ≡ length old + length earlier = ap length is ∙ length-append old earlier in subst (λ n. IsRefused n form fault) e refused;
}

pub refused_clause : (count index : ℕ) (clause : Clause) (fault : FormFault) → is_light_clause clause ≡ true → RefusesForm count (clause_forms index clause) fault → RefusesClause count index clause fault
refused_clause count index clause (TooHeavy at position) light r = absurd r.refused
refused_clause count index clause (TooManyForms at) light r = (light, r)
refused_clause count index clause (NotRestricted at number variable) light r = (light, r)
refused_clause count index clause NoMemory light r = tt

pub restricted_more : (earlier : List Form) (form : Form) → list_all is_restricted earlier ≡ true → is_restricted form ≡ true → list_all is_restricted (earlier ++ form ∷ []) ≡ true
restricted_more earlier form before here = list_all-append is_restricted earlier (form ∷ []) ∙ rw before (rw here refl)
