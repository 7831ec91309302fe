-- The clauses with those before them: how many forms they have, and which fault stands first.
use Rattle.std.proofs.Common.{append-nil, ◌≡◌, ℕ, ◌+◌, ◌<◌, ◌≤◌, Bool, true, false, ◌&&◌, List, [], ◌∷◌, ◌++◌, length, get_or, take, drop, map, refl, sym, ◌∙◌, ap, subst, arith, append_assoc, if◌then◌else◌, nat_le, All}
use Rattle.std.proofs.lemmas.List.{take_more, length-take, length-append}
use Rattle.std.proofs.lemmas.List.Folds.{list_all-append}
use Rattle.std.proofs.lemmas.List.Elements.{All-cons, All-map, All-nil}
use Rattle.std.proofs.lemmas.Bool.Decides.{nat_tests}
use Rattle.std.proofs.Math.Seq.{get_or-append_seam}
use Rattle.std.specs.List.{list_all}
use Rattle.mg_word.specs.Forms.{plain_form, further_form, clause_forms, forms_from, forms_of, is_always_true, is_restricted}
use Rattle.mg_word.specs.declared.clause.Clause.{Clause}
use Rattle.mg_word.specs.declared.form.Form.{Form}
use Rattle.mg_word.specs.Facts.{most_forms}
use Rattle.clause_form.specs.Faults.{is_light_clause, is_faultless, IsReached, Stands}
use Rattle.clause_form.specs.Building.{RefusesClause, IsPushed}
use Rattle.clause_form.specs.declared.fault.FormFault.{FormFault}
use Rattle.clause_form.specs.declared.fault.FormFault.TheVariants.{TooHeavy, TooManyForms, NotRestricted, NoMemory}
use Rattle.clause_form.proofs.Splits.{split_at}
use Rattle.mg_word.proofs.Members.{both_true}

pub forms_from-append : (at : ℕ) (xs ys : List Clause) → forms_from at (xs ++ ys) ≡ forms_from at xs ++ forms_from (at + length xs) ys
forms_from-append at [] ys = ap (λ n. forms_from n ys) (omega arith)
forms_from-append at (x ∷ xs) ys =
    ap (λ r. clause_forms at x ++ r) (forms_from-append (at + 1) xs ys)
    ∙ ap (λ n. clause_forms at x ++ (forms_from (at + 1) xs ++ forms_from n ys)) (omega arith)
    ∙ sym (append_assoc (clause_forms at x) (forms_from (at + 1) xs) (forms_from (at + length (x ∷ xs)) ys))

-- the forms of one clause more
pub forms_of-push : (before : List Clause) (clause : Clause) → forms_of (before ++ clause ∷ []) ≡ forms_of before ++ clause_forms (length before) clause
forms_of-push before clause =
    forms_from-append 0 before (clause ∷ []) ∙ ap (λ n. forms_of before ++ (clause_forms n clause ++ [])) (omega arith)
    ∙ ap (λ r. forms_of before ++ r) (append-nil (clause_forms (length before) clause))

and_all : (a b c : Bool) → a ≡ true → b ≡ true → c ≡ true → (a && (b && c)) ≡ true
and_all a b c x y z = rw x (rw y z)

few_test : (n : ℕ) → n ≤ most_forms → nat_le n most_forms ≡ true
few_test n h = grind (arith, nat_tests)

-- one more clause without a fault
pub faultless_push : (before : List Clause) (clause : Clause) → is_faultless before ≡ true → is_light_clause clause ≡ true → length (forms_of before) + length (clause_forms (length before) clause) ≤ most_forms → list_all is_restricted (clause_forms (length before) clause) ≡ true
    → is_faultless (before ++ clause ∷ []) ≡ true
faultless_push before clause e light few restricted =
    let parts = both_true (list_all is_light_clause before) (nat_le (length (forms_of before)) most_forms && list_all is_restricted (forms_of before)) e in
    let forms = both_true (nat_le (length (forms_of before)) most_forms) (list_all is_restricted (forms_of before)) parts.1 in
    let lights : list_all is_light_clause (before ++ clause ∷ []) ≡ true = list_all-append is_light_clause before (clause ∷ []) ∙ rw parts.0 (rw light refl) in
    let count : length (forms_of (before ++ clause ∷ [])) ≤ most_forms = rw (forms_of-push before clause) (rw (length-append (forms_of before) (clause_forms (length before) clause)) few) in
    let each : list_all is_restricted (forms_of (before ++ clause ∷ [])) ≡ true =
    ap (list_all is_restricted) (forms_of-push before clause) ∙ list_all-append is_restricted (forms_of before) (clause_forms (length before) clause) ∙ rw forms.1 restricted in
    and_all (list_all is_light_clause (before ++ clause ∷ [])) (nat_le (length (forms_of (before ++ clause ∷ []))) most_forms) (list_all is_restricted (forms_of (before ++ clause ∷ []))) lights (few_test (length (forms_of (before ++ clause ∷ []))) count) each

-- each form of a clause names it
forms_name : (index : ℕ) (clause : Clause) (test : Bool) → All (λ form. form.clause ≡ index) (if test then [] else plain_form index clause ∷ map (further_form index clause) clause.conclude)
forms_name index clause true = All-nil (λ (form : Form). form.clause ≡ index)
forms_name index clause false =
    All-cons (λ (form : Form). form.clause ≡ index) (plain_form index clause) (map (further_form index clause) clause.conclude) refl
    (All-map (λ (form : Form). form.clause ≡ index) (further_form index clause) clause.conclude (λ k d h. refl))

pub form_names : (index : ℕ) (clause : Clause) (earlier : List Form) (form : Form) (later : List Form) → clause_forms index clause ≡ earlier ++ form ∷ later → form.clause ≡ index
form_names index clause earlier form later are =
    let at : length earlier < length (earlier ++ form ∷ later) = rw (length-append earlier (form ∷ later)) (omega arith) in
    let here = subst (λ forms. length earlier < length forms) (sym are) at in
    ap (λ (f : Form). f.clause) (sym (get_or-append_seam earlier form later form) ∙ ap (λ forms. get_or forms (length earlier) form) (sym are)) ∙ forms_name index clause (is_always_true clause.literals) (length earlier) form here

reached : (clauses : List Clause) (i : ℕ) (clause : Clause) (built : List Form) (at number : ℕ) (form : Form) (earlier later : List Form) → i < length clauses → clause ≡ get_or clauses i clause → built ≡ forms_of (take i clauses) → is_faultless (take i clauses) ≡ true → is_light_clause clause ≡ true
    → at ≡ i → clause_forms i clause ≡ earlier ++ form ∷ later → list_all is_restricted earlier ≡ true → number ≡ length built + length earlier + 1 → number ≤ most_forms + 1 → IsReached clauses at number form
reached clauses i clause built at number form earlier later h is built_is faultless light named are restricted number_is few = record {
  before = take i clauses;
  clause = clause;
  after = drop (i + 1) clauses;
  clauses_are = split_at clauses i clause h is;
  index_is = omega (arith, named, length-take i clauses);
  faultless = faultless;
  light = light;
  earlier = earlier;
  later = later;
  forms_are = ap (λ n. clause_forms n clause) named ∙ are;
  number_is = number_is ∙ ap (λ forms. length forms + length earlier + 1) built_is;
  few = few;
  restricted = restricted;
}

-- a fault at a clause that has no fault before it
pub stands_at : (clauses : List Clause) (i : ℕ) (clause : Clause) (built : List Form) (fault : FormFault) → i < length clauses → clause ≡ get_or clauses i clause → built ≡ forms_of (take i clauses) → is_faultless (take i clauses) ≡ true → RefusesClause (length built) i clause fault → Stands clauses fault
stands_at clauses i clause built (TooHeavy at position) h is built_is faultless r = record {
  before = take i clauses;
  clause = clause;
  after = drop (i + 1) clauses;
  clauses_are = split_at clauses i clause h is;
  index_is = omega (arith, r.0, length-take i clauses);
  faultless = faultless;
  first = r.1;
}
stands_at clauses i clause built (TooManyForms at) h is built_is faultless r =
    let named = r.1.refused.0 ∙ form_names i clause r.1.earlier r.1.form r.1.later r.1.forms_are in
    (r.1.form, reached clauses i clause built at (most_forms + 1) r.1.form r.1.earlier r.1.later h is built_is faultless r.0 named r.1.forms_are r.1.restricted (ap (λ n. n + 1) (sym r.1.refused.1)) (omega arith))
stands_at clauses i clause built (NotRestricted at number variable) h is built_is faultless r =
    let named = r.1.refused.0 ∙ form_names i clause r.1.earlier r.1.form r.1.later r.1.forms_are in
    let count : number ≤ most_forms = omega (arith, r.1.refused.1, r.1.refused.2) in
    (r.1.form, reached clauses i clause built at number r.1.form r.1.earlier r.1.later h is built_is faultless r.0 named r.1.forms_are r.1.restricted r.1.refused.2 (omega arith), count, r.1.refused.3)
stands_at clauses i clause built NoMemory h is built_is faultless r = tt

-- and where it has none
pub pushed_on : (clauses : List Clause) (i : ℕ) (clause : Clause) (built more : List Form) → i < length clauses → clause ≡ get_or clauses i clause → built ≡ forms_of (take i clauses) → is_faultless (take i clauses) ≡ true → IsPushed built more i clause
    → (more ≡ forms_of (take (i + 1) clauses)) × (is_faultless (take (i + 1) clauses) ≡ true)
pushed_on clauses i clause built more h is built_is faultless pushed =
    let next : take (i + 1) clauses ≡ take i clauses ++ clause ∷ [] = take_more clauses i clause h ∙ ap (λ x. take i clauses ++ x ∷ []) (sym is) in
    let at : length (take i clauses) ≡ i = omega (arith, length-take i clauses) in
    let forms_are : forms_of (take (i + 1) clauses) ≡ forms_of (take i clauses) ++ clause_forms i clause =
    ap forms_of next ∙ forms_of-push (take i clauses) clause ∙ ap (λ n. forms_of (take i clauses) ++ clause_forms n clause) at in
    let more_is : more ≡ forms_of (take (i + 1) clauses) = pushed.added ∙ ap (λ r. r ++ clause_forms i clause) built_is ∙ sym forms_are in
    let few : length (forms_of (take i clauses)) + length (clause_forms i clause) ≤ most_forms =
    subst (λ n. n ≤ most_forms) (ap length (pushed.added ∙ ap (λ r. r ++ clause_forms i clause) built_is) ∙ length-append (forms_of (take i clauses)) (clause_forms i clause)) pushed.few in (
      more_is,
      ap is_faultless next ∙ faultless_push (take i clauses) clause faultless pushed.light (subst (λ n. length (forms_of (take i clauses)) + length (clause_forms n clause) ≤ most_forms) (sym at) few) (ap (λ n. list_all is_restricted (clause_forms n clause)) at ∙ pushed.restricted),
    )
