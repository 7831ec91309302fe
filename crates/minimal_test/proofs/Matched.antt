-- The matches of all premises of a form are the instances whose premises are held.
use Rattle.std.proofs.Common.{◌≡◌, ℕ, zero, suc, ◌<◌, true, true≢false, List, [], ◌∷◌, map, length, Option, Some, None, slice_get, refl, sym, ap, ◌∙◌, inl, inr, nat_lt, nat_eq, arith}
use Rattle.std.specs.List.{list_all}
use Rattle.std.proofs.lemmas.Bool.{eqb-true, eq-eqb, lt-ltb, ltb-true}
use Rattle.mg_word.specs.Table.{Symbol}
use Rattle.mg_word.specs.Words.{fits, lit_instances, form_instance}
use Rattle.mg_word.specs.Sets.{is_part}
use Rattle.mg_word.specs.Forms.{is_among, lits_variables}
use Rattle.mg_word.specs.Facts.{ProblemData, IsProblem}
use Rattle.mg_word.specs.declared.lit.Lit.{Lit}
use Rattle.mg_word.specs.declared.form.Form.{Form}
use Rattle.mg_word.specs.declared.form.Inst.{Inst}
use Rattle.mg_word.proofs.Members.{both_true, and_true, same_tests}
use Rattle.mg_meaning.specs.Instances.{IsInstance}
use Rattle.mg_meaning.specs.Matches.{is_bound, are_terms_bound, terms_of}
use Rattle.mg_meaning.specs.Matching.{matches}
use Rattle.mg_meaning.proofs.Lists.{Among, among_from, contains_from}
use Rattle.mg_meaning.proofs.Listings.{take_all}
use Rattle.mg_meaning.proofs.Matchings.{matches_exact}
use Rattle.mg_meaning.proofs.FormVariables.{numbered_among, premise_variables}

-- a ground substitution as a match of all variables
abbrev all_bound : List (List ℕ) → List (Option (List ℕ))
all_bound terms = map Some terms

terms_back : (terms : List (List ℕ)) → terms_of (all_bound terms) ≡ terms
terms_back [] = refl
terms_back (term ∷ terms) = ap (λ rest. term ∷ rest) (terms_back terms)

length-all_bound : (terms : List (List ℕ)) → length (all_bound terms) ≡ length terms
length-all_bound [] = refl
length-all_bound (term ∷ terms) = ap suc (length-all_bound terms)

length-terms_of : (terms : List (Option (List ℕ))) → length (terms_of terms) ≡ length terms
length-terms_of [] = refl
length-terms_of (term ∷ terms) = ap suc (length-terms_of terms)

ground_bound : (table : List Symbol) (terms : List (List ℕ)) → list_all (fits table) terms ≡ true → are_terms_bound table (all_bound terms) ≡ true
ground_bound table [] each = refl
ground_bound table (term ∷ terms) each =
    let parts = both_true (fits table term) (list_all (fits table) terms) each in
    and_true (fits table term) (are_terms_bound table (all_bound terms)) parts.0 (ground_bound table terms parts.1)

bound_less : (terms : List (List ℕ)) (k : ℕ) → is_bound (all_bound terms) k ≡ true → k < length terms
bound_less [] k e = absurd (true≢false (sym e))
bound_less (term ∷ terms) zero e = omega arith
bound_less (term ∷ terms) (suc k) e = let less = bound_less terms k e in omega arith

less_bound : (terms : List (List ℕ)) (k : ℕ) → k < length terms → is_bound (all_bound terms) k ≡ true
less_bound [] k less = absurd (omega arith)
less_bound (term ∷ terms) zero less = refl
less_bound (term ∷ terms) (suc k) less = less_bound terms k (omega arith)

-- where each variable has a term, all of them are ground terms
bound_ground : (table : List Symbol) (terms : List (Option (List ℕ))) → are_terms_bound table terms ≡ true → ((k : ℕ) → k < length terms → is_bound terms k ≡ true) → list_all (fits table) (terms_of terms) ≡ true
bound_ground table [] each bound = refl
bound_ground table (None ∷ terms) each bound = absurd (true≢false (sym (bound zero (omega arith))))
bound_ground table (Some term ∷ terms) each bound =
    let parts = both_true (fits table term) (are_terms_bound table terms) each in
    and_true (fits table term) (list_all (fits table) (terms_of terms)) parts.0 (bound_ground table terms parts.1 (λ k less. bound (suc k) (omega arith)))

-- a form of a list has a number
pub number_of : (forms : List Form) (form : Form) → Among forms form → (k : ℕ) × (slice_get forms k ≡ Some form)
number_of [] form there = absurd there
number_of (first ∷ forms) form (inl same) = (zero, ap Some same)
number_of (first ∷ forms) form (inr later) = let (k, at) = number_of forms form later in (suc k, at)

-- a match of all premises gives an instance, and its premises are held
pub matched_instance : (problem : ProblemData) → IsProblem problem → (held : List Lit) (form : Form) (terms : List (Option (List ℕ))) → Among problem.forms form → Among (matches problem.symbols form (length form.premises) held) terms
    → (number : ℕ) × IsInstance problem (form_instance number (terms_of terms) form) × (is_part (lit_instances (terms_of terms) form.premises) held ≡ true)
matched_instance problem real held form terms among matched =
    let (k, at) = number_of problem.forms form among in
    let is = (matches_exact problem.symbols form (length form.premises) held terms).0 (contains_from (matches problem.symbols form (length form.premises) held) terms matched) in
    let bound : (j : ℕ) → j < length terms → is_bound terms j ≡ true =
    λ j less. is.exact j ∙ (ap (λ premises. is_among (lits_variables premises) j) (take_all form.premises) ∙ (premise_variables problem real (suc k) form at j ∙ lt-ltb j form.variables (omega (arith, is.places, less)))) in (
      suc k,
      record {
        form = form;
        is = at;
        terms = and_true (nat_eq (length (terms_of terms)) form.variables) (list_all (fits problem.symbols) (terms_of terms))
            (eq-eqb (length (terms_of terms)) form.variables (length-terms_of terms ∙ is.places)) (bound_ground problem.symbols terms is.ground_terms bound);
        made = refl;
      },
      ap (λ premises. is_part (lit_instances (terms_of terms) premises) held) (sym (take_all form.premises)) ∙ is.holding,
    )

-- an instance whose premises are held comes from a match
pub record IsMatched (problem : ProblemData) (held : List Lit) (inst : Inst) : Type 0 where
  pub form : Form
  pub terms : List (Option (List ℕ))
  pub among : Among problem.forms form
  pub matched : Among (matches problem.symbols form (length form.premises) held) terms
  pub premises : lit_instances (terms_of terms) form.premises ≡ inst.premises
  pub conclusions : lit_instances (terms_of terms) form.conclusions ≡ inst.conclusions

pub instance_matched : (problem : ProblemData) → IsProblem problem → (held : List Lit) (inst : Inst) → IsInstance problem inst → is_part inst.premises held ≡ true → IsMatched problem held inst
instance_matched problem real held inst is premises =
    let parts = both_true (nat_eq (length inst.subst) is.form.variables) (list_all (fits problem.symbols) inst.subst) is.terms in
    let count : length inst.subst ≡ is.form.variables = eqb-true (length inst.subst) is.form.variables parts.0 in
    let same : lit_instances (terms_of (all_bound inst.subst)) is.form.premises ≡ inst.premises =
    ap (λ some. lit_instances some is.form.premises) (terms_back inst.subst) ∙ sym (ap (λ (one : Inst). one.premises) is.made) in
    record {
      form = is.form;
      terms = all_bound inst.subst;
      among = numbered_among problem.forms inst.form is.form is.is;
      matched = among_from (matches problem.symbols is.form (length is.form.premises) held) (all_bound inst.subst)
          ((matches_exact problem.symbols is.form (length is.form.premises) held (all_bound inst.subst)).1 (record {
            places = length-all_bound inst.subst ∙ count;
            exact = λ k. same_tests (is_bound (all_bound inst.subst) k) (nat_lt k is.form.variables)
                (λ e. lt-ltb k is.form.variables (let less = bound_less inst.subst k e in omega (arith, count, less)))
                (λ e. less_bound inst.subst k (let less = ltb-true k is.form.variables e in omega (arith, count, less)))
                ∙ (sym (premise_variables problem real inst.form is.form is.is k) ∙ ap (λ premises. is_among (lits_variables premises) k) (sym (take_all is.form.premises)));
            ground_terms = ground_bound problem.symbols inst.subst parts.1;
            holding = ap (λ premises. is_part (lit_instances (terms_of (all_bound inst.subst)) premises) held) (take_all is.form.premises) ∙ (ap (λ some. is_part some held) same ∙ premises);
          }));
      premises = same;
      conclusions = ap (λ some. lit_instances some is.form.conclusions) (terms_back inst.subst) ∙ sym (ap (λ (one : Inst). one.conclusions) is.made);
    }
