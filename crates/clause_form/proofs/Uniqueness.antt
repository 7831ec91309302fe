-- Clauses have at most one first fault.
use Rattle.std.proofs.Common.{◌≡◌, ◌≢◌, ℕ, ◌+◌, ◌⊎◌, inl, inr, Bool, true, false, List, [], ◌∷◌, ◌++◌, length, refl, sym, ◌∙◌, ap, subst, arith, true≢false, nat_lt}
use Rattle.std.proofs.lemmas.List.{length-append}
use Rattle.std.specs.List.{list_all}
use Rattle.mg_word.specs.Forms.{clause_forms, forms_of, is_restricted}
use Rattle.mg_word.specs.declared.clause.ClauseLit.{ClauseLit}
use Rattle.mg_word.specs.declared.clause.Clause.{Clause}
use Rattle.mg_word.specs.declared.form.Form.{Form}
use Rattle.clause_form.specs.Free.{IsLeastFree}
use Rattle.mg_word.specs.Facts.{most_forms}
use Rattle.clause_form.specs.Faults.{is_light, is_faultless, IsFirstHeavy, IsReached, Stands}
use Rattle.clause_form.specs.Building.{RefusesForm, RefusesClause}
use Rattle.clause_form.specs.declared.fault.FormFault.{FormFault}
use Rattle.clause_form.specs.declared.fault.FormFault.TheVariants.{TooHeavy, TooManyForms, NotRestricted, NoMemory}
use Rattle.clause_form.proofs.Among.{below, not_below, not_restricted}
use Rattle.clause_form.proofs.Excluding.{all_within, heavy_excluded, fault_excluded}
use Rattle.clause_form.proofs.Reaching.{form_names}

-- where one element of a list stands against another: at it, before it, or behind it
abbrev Compared : {X : Type 0} → List X → X → List X → X → Type 0
Compared {X} a x c y = ((a ≡ c) × (x ≡ y)) ⊎ (((e : List X) × (c ≡ a ++ x ∷ e)) ⊎ ((e : List X) × (a ≡ c ++ y ∷ e)))

compared_next : {X : Type 0} (z w : X) (a : List X) (x : X) (c : List X) (y : X) → z ≡ w → Compared a x c y → Compared (z ∷ a) x (w ∷ c) y
compared_next z w a x c y same (inl both) = inl (cc, both.1)
compared_next z w a x c y same (inr (inl further)) = inr (inl (further.0, cc (further.1)))
compared_next z w a x c y same (inr (inr further)) = inr (inr (further.0, cc (further.1)))

compared : {X : Type 0} (a : List X) (x : X) (b c : List X) (y : X) (d : List X) → a ++ x ∷ b ≡ c ++ y ∷ d → Compared a x c y
compared [] x b [] y d e = inl (refl, cc)
compared [] x b (z ∷ c) y d e = inr (inl (c, cc))
compared (z ∷ a) x b [] y d e = inr (inr (a, cc))
compared (z ∷ a) x b (w ∷ c) y d e =
    let head : z ≡ w = cc in
    let tail : a ++ x ∷ b ≡ c ++ y ∷ d = cc in
    compared_next z w a x c y head (compared a x b c y d tail)

-- two first heavy literals
heavy_places : (literals : List ClauseLit) (p q : ℕ) (a : IsFirstHeavy literals p) (b : IsFirstHeavy literals q) → Compared a.before a.literal b.before b.literal → p ≡ q
heavy_places literals p q a b (inl both) = a.position_is ∙ ap (λ ls. length ls + 1) both.0 ∙ sym b.position_is
heavy_places literals p q a b (inr (inl further)) =
    absurd (true≢false (sym (all_within is_light a.before a.literal further.0 (ap (list_all is_light) (sym further.1) ∙ b.light)) ∙ a.heavy))
heavy_places literals p q a b (inr (inr further)) =
    absurd (true≢false (sym (all_within is_light b.before b.literal further.0 (ap (list_all is_light) (sym further.1) ∙ a.light)) ∙ b.heavy))

heavy_once : (literals : List ClauseLit) (p q : ℕ) → IsFirstHeavy literals p → IsFirstHeavy literals q → p ≡ q
heavy_once literals p q a b = heavy_places literals p q a b (compared a.before a.literal a.after b.before b.literal b.after (sym a.literals_are ∙ b.literals_are))

not_less : (form : Form) (v w : ℕ) → IsLeastFree form v → IsLeastFree form w → nat_lt v w ≡ true → ⊥
not_less form v w a b h = true≢false (sym a.free ∙ b.least v (below v w h))

least_tests : (form : Form) (v w : ℕ) → IsLeastFree form v → IsLeastFree form w → (s t : Bool) → nat_lt v w ≡ s → nat_lt w v ≡ t → v ≡ w
least_tests form v w a b true t h k = absurd (not_less form v w a b h)
least_tests form v w a b false true h k = absurd (not_less form w v b a k)
least_tests form v w a b false false h k = let up = not_below v w h in let down = not_below w v k in omega arith

least_once : (form : Form) (v w : ℕ) → IsLeastFree form v → IsLeastFree form w → v ≡ w
least_once form v w a b = least_tests form v w a b (nat_lt v w) (nat_lt w v) refl refl

-- two forms of a list that may not come after the others, each with a free variable
free_places : (count : ℕ) (forms : List Form) (i j m n v w : ℕ) (a : RefusesForm count forms (NotRestricted i m v)) (b : RefusesForm count forms (NotRestricted j n w)) → Compared a.earlier a.form b.earlier b.form → (m ≡ n) × (v ≡ w)
free_places count forms i j m n v w a b (inl both) = (
  a.refused.2 ∙ ap (λ fs. count + length fs + 1) both.0 ∙ sym b.refused.2,
  least_once b.form v w (subst (λ form. IsLeastFree form v) both.1 a.refused.3) b.refused.3,
)
free_places count forms i j m n v w a b (inr (inl further)) =
    absurd (true≢false (not_restricted a.form v a.refused.3 (all_within is_restricted a.earlier a.form further.0 (ap (list_all is_restricted) (sym further.1) ∙ b.restricted))))
free_places count forms i j m n v w a b (inr (inr further)) =
    absurd (true≢false (not_restricted b.form w b.refused.3 (all_within is_restricted b.earlier b.form further.0 (ap (list_all is_restricted) (sym further.1) ∙ a.restricted))))

-- a form too many is not before, at or behind one that is not restricted
many_places : (count : ℕ) (forms : List Form) (i j n w : ℕ) (a : RefusesForm count forms (TooManyForms i)) (b : RefusesForm count forms (NotRestricted j n w)) → Compared a.earlier a.form b.earlier b.form → ⊥
many_places count forms i j n w a b (inl both) =
    let e : length a.earlier ≡ length b.earlier = ap length both.0 in omega (arith, a.refused.1, b.refused.1)
many_places count forms i j n w a b (inr (inl further)) =
    let e : length b.earlier ≡ length a.earlier + length (a.form ∷ further.0) = ap length further.1 ∙ length-append a.earlier (a.form ∷ further.0) in omega (arith, a.refused.1, b.refused.1)
many_places count forms i j n w a b (inr (inr further)) =
    true≢false (not_restricted b.form w b.refused.3 (all_within is_restricted b.earlier b.form further.0 (ap (list_all is_restricted) (sym further.1) ∙ a.restricted)))

many_excluded : (count : ℕ) (forms : List Form) (i j n w : ℕ) → RefusesForm count forms (TooManyForms i) → RefusesForm count forms (NotRestricted j n w) → ⊥
many_excluded count forms i j n w a b = many_places count forms i j n w a b (compared a.earlier a.form a.later b.earlier b.form b.later (sym a.forms_are ∙ b.forms_are))

named : (count index : ℕ) (clause : Clause) (i : ℕ) (fault : FormFault) (a : RefusesForm count (clause_forms index clause) fault) → i ≡ a.form.clause → i ≡ index
named count index clause i fault a is = is ∙ form_names index clause a.earlier a.form a.later a.forms_are

-- one clause has one first fault
refused_once : (count index : ℕ) (clause : Clause) (a b : FormFault) → a ≢ NoMemory → b ≢ NoMemory → RefusesClause count index clause a → RefusesClause count index clause b → a ≡ b
refused_once count index clause NoMemory b ka kb r s = absurd (ka refl)
refused_once count index clause a NoMemory ka kb r s = absurd (kb refl)
refused_once count index clause (TooHeavy i p) (TooHeavy j q) ka kb r s =
    let indexes = r.0 ∙ sym s.0 in
    let positions = heavy_once clause.literals p q r.1 s.1 in
    λ k. TooHeavy (indexes k) (positions k)
refused_once count index clause (TooHeavy i p) (TooManyForms j) ka kb r s = absurd (heavy_excluded clause.literals p r.1 s.0)
refused_once count index clause (TooHeavy i p) (NotRestricted j n w) ka kb r s = absurd (heavy_excluded clause.literals p r.1 s.0)
refused_once count index clause (TooManyForms i) (TooHeavy j q) ka kb r s = absurd (heavy_excluded clause.literals q s.1 r.0)
refused_once count index clause (NotRestricted i m v) (TooHeavy j q) ka kb r s = absurd (heavy_excluded clause.literals q s.1 r.0)
refused_once count index clause (TooManyForms i) (TooManyForms j) ka kb r s =
    ap TooManyForms (named count index clause i (TooManyForms i) r.1 r.1.refused.0 ∙ sym (named count index clause j (TooManyForms j) s.1 s.1.refused.0))
refused_once count index clause (TooManyForms i) (NotRestricted j n w) ka kb r s = absurd (many_excluded count (clause_forms index clause) i j n w r.1 s.1)
refused_once count index clause (NotRestricted i m v) (TooManyForms j) ka kb r s = absurd (many_excluded count (clause_forms index clause) j i m v s.1 r.1)
refused_once count index clause (NotRestricted i m v) (NotRestricted j n w) ka kb r s =
    let indexes = named count index clause i (NotRestricted i m v) r.1 r.1.refused.0 ∙ sym (named count index clause j (NotRestricted j n w) s.1 s.1.refused.0) in
    let both = free_places count (clause_forms index clause) i j m n v w r.1 s.1 (compared r.1.earlier r.1.form r.1.later s.1.earlier s.1.form s.1.later (sym r.1.forms_are ∙ s.1.forms_are)) in
    let numbers = both.0 in
    let variables = both.1 in
    λ k. NotRestricted (indexes k) (numbers k) (variables k)

-- the clause of a fault, between the others
record FaultPlace (clauses : List Clause) (fault : FormFault) : Type 0 where
  before : List Clause
  clause : Clause
  after : List Clause
  clauses_are : clauses ≡ before ++ clause ∷ after
  faultless : is_faultless before ≡ true
  refused : RefusesClause (length (forms_of before)) (length before) clause fault
  stands : (more : List Clause) → Stands (before ++ clause ∷ more) fault

form_refused : (clauses : List Clause) (index number : ℕ) (form : Form) (r : IsReached clauses index number form) → (forms : clause_forms (length r.before) r.clause ≡ r.earlier ++ form ∷ r.later) → index ≡ form.clause
form_refused clauses index number form r forms = r.index_is ∙ sym (form_names (length r.before) r.clause r.earlier form r.later forms)

place_of : (clauses : List Clause) (fault : FormFault) → fault ≢ NoMemory → Stands clauses fault → FaultPlace clauses fault
place_of clauses (TooHeavy index position) known r = record {
  before = r.before;
  clause = r.clause;
  after = r.after;
  clauses_are = r.clauses_are;
  faultless = r.faultless;
  refused = (r.index_is, r.first);
  stands = λ more. record { before = r.before; clause = r.clause; after = more; clauses_are = refl; index_is = r.index_is; faultless = r.faultless; first = r.first };
}
place_of clauses (TooManyForms index) known r =
    let form = r.0 in
    let at = r.1 in
    let forms : clause_forms (length at.before) at.clause ≡ at.earlier ++ form ∷ at.later = ap (λ n. clause_forms n at.clause) (sym at.index_is) ∙ at.forms_are in
    record {
      before = at.before;
      clause = at.clause;
      after = at.after;
      clauses_are = at.clauses_are;
      faultless = at.faultless;
      refused = (at.light, record { earlier = at.earlier; form = form; later = at.later; forms_are = forms; restricted = at.restricted; refused = (form_refused clauses index (most_forms + 1) form at forms, omega (arith, at.number_is)) });
      stands = λ more. (form, record { before = at.before; clause = at.clause; after = more; clauses_are = refl; index_is = at.index_is; faultless = at.faultless; light = at.light; earlier = at.earlier; later = at.later; forms_are = at.forms_are; number_is = at.number_is; few = at.few; restricted = at.restricted });
    }
place_of clauses (NotRestricted index number variable) known r =
    let form = r.0 in
    let at = r.1 in
    let forms : clause_forms (length at.before) at.clause ≡ at.earlier ++ form ∷ at.later = ap (λ n. clause_forms n at.clause) (sym at.index_is) ∙ at.forms_are in
    record {
      before = at.before;
      clause = at.clause;
      after = at.after;
      clauses_are = at.clauses_are;
      faultless = at.faultless;
      refused = (at.light, record { earlier = at.earlier; form = form; later = at.later; forms_are = forms; restricted = at.restricted; refused = (form_refused clauses index number form at forms, omega (arith, at.number_is, r.2), at.number_is, r.3) });
      stands = λ more. (form, record { before = at.before; clause = at.clause; after = more; clauses_are = refl; index_is = at.index_is; faultless = at.faultless; light = at.light; earlier = at.earlier; later = at.later; forms_are = at.forms_are; number_is = at.number_is; few = at.few; restricted = at.restricted }, r.2, r.3);
    }
place_of clauses NoMemory known r = absurd (known refl)

places_once : (clauses : List Clause) (a b : FormFault) → a ≢ NoMemory → b ≢ NoMemory → (r : FaultPlace clauses a) (s : FaultPlace clauses b) → Compared r.before r.clause s.before s.clause → a ≡ b
places_once clauses a b ka kb r s (inl both) =
    let moved : RefusesClause (length (forms_of s.before)) (length s.before) r.clause a = subst (λ (cs : List Clause). RefusesClause (length (forms_of cs)) (length cs) r.clause a) both.0 r.refused in
    let here : RefusesClause (length (forms_of s.before)) (length s.before) s.clause a = subst (λ (clause : Clause). RefusesClause (length (forms_of s.before)) (length s.before) clause a) both.1 moved in
    refused_once (length (forms_of s.before)) (length s.before) s.clause a b ka kb here s.refused
places_once clauses a b ka kb r s (inr (inl further)) =
    absurd (fault_excluded (r.before ++ r.clause ∷ further.0) a ka (r.stands further.0) (ap is_faultless (sym further.1) ∙ s.faultless))
places_once clauses a b ka kb r s (inr (inr further)) =
    absurd (fault_excluded (s.before ++ s.clause ∷ further.0) b kb (s.stands further.0) (ap is_faultless (sym further.1) ∙ r.faultless))

-- clauses have one first fault
pub one_first_fault : (clauses : List Clause) (a b : FormFault) → a ≢ NoMemory → b ≢ NoMemory → Stands clauses a → Stands clauses b → a ≡ b
one_first_fault clauses a b ka kb r s =
    let first = place_of clauses a ka r in
    let second = place_of clauses b kb s in
    places_once clauses a b ka kb first second (compared first.before first.clause first.after second.before second.clause second.after (sym first.clauses_are ∙ second.clauses_are))
