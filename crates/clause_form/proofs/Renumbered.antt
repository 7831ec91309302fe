-- New numbers of the symbols change neither which forms there are, nor which variables they have, nor which fault stands.
use Rattle.std.proofs.Common.{◌≡◌, ℕ, ◌+◌, Bool, true, false, ◌&&◌, not, List, [], ◌∷◌, ◌++◌, length, map, refl, sym, ◌∙◌, ap, subst, if◌then◌else◌, nat_le}
use Rattle.std.proofs.lemmas.List.{length-map, map-append}
use Rattle.std.specs.List.{list_all}
use Rattle.mg_word.specs.Forms.{premises_of, conclusions_of, others_from, chosen_from, is_always_true, is_among, opposite, plain_form, further_form, clause_forms, forms_from, forms_of, is_restricted, pattern_variables, lits_variables}
use Rattle.mg_word.specs.declared.item.Item.{Item}
use Rattle.mg_word.specs.declared.item.Item.TheVariants.{Sym, Var}
use Rattle.mg_word.specs.declared.lit.PatLit.{PatLit}
use Rattle.mg_word.specs.declared.clause.ClauseLit.{ClauseLit}
use Rattle.mg_word.specs.declared.clause.ClauseLit.TheVariants.{True, False, Lit as Literal}
use Rattle.mg_word.specs.declared.clause.Clause.{Clause}
use Rattle.mg_word.specs.declared.form.Form.{Form}
use Rattle.clause_form.specs.Free.{is_free, IsLeastFree}
use Rattle.mg_word.specs.Facts.{most_forms, most_items}
use Rattle.clause_form.specs.Faults.{is_light, is_light_clause, is_faultless, IsFirstHeavy, IsReached, Stands}
use Rattle.clause_form.specs.Renumbering.{item_renumbered, pattern_renumbered, lit_renumbered, literal_renumbered, clause_renumbered, renumbered}
use Rattle.clause_form.specs.declared.fault.FormFault.{FormFault}
use Rattle.clause_form.specs.declared.fault.FormFault.TheVariants.{TooHeavy, TooManyForms, NotRestricted, NoMemory}

abbrev pub form_renumbered : List ℕ → Form → Form
form_renumbered numbers form = record {
  clause = form.clause;
  variables = form.variables;
  premises = map (lit_renumbered numbers) form.premises;
  conclusions = map (lit_renumbered numbers) form.conclusions;
}

-- a choice that both sides make
mapped_chosen : {A B : Type 0} (f : A → B) (b : Bool) (x : A) (xs : List A) → (if b then f x ∷ map f xs else map f xs) ≡ map f (if b then x ∷ xs else xs)
mapped_chosen f true x xs = refl
mapped_chosen f false x xs = refl

mapped_unchosen : {A B : Type 0} (f : A → B) (b : Bool) (x : A) (xs : List A) → (if b then map f xs else f x ∷ map f xs) ≡ map f (if b then xs else x ∷ xs)
mapped_unchosen f true x xs = refl
mapped_unchosen f false x xs = refl

premises_mapped : (n : List ℕ) (ls : List ClauseLit) → premises_of (map (literal_renumbered n) ls) ≡ map (lit_renumbered n) (premises_of ls)
premises_mapped n [] = refl
premises_mapped n (True ∷ ls) = premises_mapped n ls
premises_mapped n (False ∷ ls) = premises_mapped n ls
premises_mapped n (Literal lit ∷ ls) =
    ap (λ r. if lit.negative then lit_renumbered n (opposite lit) ∷ r else r) (premises_mapped n ls) ∙ mapped_chosen (lit_renumbered n) lit.negative (opposite lit) (premises_of ls)

conclusions_mapped : (n : List ℕ) (ls : List ClauseLit) → conclusions_of (map (literal_renumbered n) ls) ≡ map (lit_renumbered n) (conclusions_of ls)
conclusions_mapped n [] = refl
conclusions_mapped n (True ∷ ls) = conclusions_mapped n ls
conclusions_mapped n (False ∷ ls) = conclusions_mapped n ls
conclusions_mapped n (Literal lit ∷ ls) =
    ap (λ r. if lit.negative then r else lit_renumbered n lit ∷ r) (conclusions_mapped n ls) ∙ mapped_unchosen (lit_renumbered n) lit.negative lit (conclusions_of ls)

chosen_mapped : (n : List ℕ) (at : ℕ) (chosen : List ℕ) (ls : List ClauseLit) → chosen_from at chosen (map (literal_renumbered n) ls) ≡ map (lit_renumbered n) (chosen_from at chosen ls)
chosen_mapped n at chosen [] = refl
chosen_mapped n at chosen (True ∷ ls) = chosen_mapped n (at + 1) chosen ls
chosen_mapped n at chosen (False ∷ ls) = chosen_mapped n (at + 1) chosen ls
chosen_mapped n at chosen (Literal lit ∷ ls) =
    ap (λ r. if is_among chosen at then lit_renumbered n lit ∷ r else r) (chosen_mapped n (at + 1) chosen ls) ∙ mapped_chosen (lit_renumbered n) (is_among chosen at) lit (chosen_from (at + 1) chosen ls)

others_mapped : (n : List ℕ) (at : ℕ) (chosen : List ℕ) (ls : List ClauseLit) → others_from at chosen (map (literal_renumbered n) ls) ≡ map (lit_renumbered n) (others_from at chosen ls)
others_mapped n at chosen [] = refl
others_mapped n at chosen (True ∷ ls) = others_mapped n (at + 1) chosen ls
others_mapped n at chosen (False ∷ ls) = others_mapped n (at + 1) chosen ls
others_mapped n at chosen (Literal lit ∷ ls) =
    ap (λ r. if is_among chosen at then r else lit_renumbered n (opposite lit) ∷ r) (others_mapped n (at + 1) chosen ls) ∙ mapped_unchosen (lit_renumbered n) (is_among chosen at) (opposite lit) (others_from (at + 1) chosen ls)

always_true_mapped : (n : List ℕ) (ls : List ClauseLit) → is_always_true (map (literal_renumbered n) ls) ≡ is_always_true ls
always_true_mapped n [] = refl
always_true_mapped n (True ∷ ls) = refl
always_true_mapped n (False ∷ ls) = always_true_mapped n ls
always_true_mapped n (Literal lit ∷ ls) = always_true_mapped n ls

plain_mapped : (n : List ℕ) (index : ℕ) (clause : Clause) → plain_form index (clause_renumbered n clause) ≡ form_renumbered n (plain_form index clause)
plain_mapped n index clause =
    let first = premises_mapped n clause.literals in
    let second = conclusions_mapped n clause.literals in
    λ i. record { clause = index; variables = length clause.variables; premises = first i; conclusions = second i }

further_mapped : (n : List ℕ) (index : ℕ) (clause : Clause) (chosen : List ℕ) → further_form index (clause_renumbered n clause) chosen ≡ form_renumbered n (further_form index clause chosen)
further_mapped n index clause chosen =
    let first = others_mapped n 1 chosen clause.literals in
    let second = chosen_mapped n 1 chosen clause.literals in
    λ i. record { clause = index; variables = length clause.variables; premises = first i; conclusions = second i }

furthers_mapped : (n : List ℕ) (index : ℕ) (clause : Clause) (items : List (List ℕ)) → map (further_form index (clause_renumbered n clause)) items ≡ map (form_renumbered n) (map (further_form index clause) items)
furthers_mapped n index clause [] = refl
furthers_mapped n index clause (chosen ∷ items) =
    ap (λ f. f ∷ map (further_form index (clause_renumbered n clause)) items) (further_mapped n index clause chosen) ∙ ap (λ r. form_renumbered n (further_form index clause chosen) ∷ r) (furthers_mapped n index clause items)

none_or_mapped : {A B : Type 0} (f : A → B) (b : Bool) (xs : List A) → (if b then [] else map f xs) ≡ map f (if b then [] else xs)
none_or_mapped f true xs = refl
none_or_mapped f false xs = refl

-- the forms of a clause over the new numbers
pub clause_forms-mapped : (n : List ℕ) (index : ℕ) (clause : Clause) → clause_forms index (clause_renumbered n clause) ≡ map (form_renumbered n) (clause_forms index clause)
clause_forms-mapped n index clause =
    ap (λ b. if b then [] else plain_form index (clause_renumbered n clause) ∷ map (further_form index (clause_renumbered n clause)) clause.conclude) (always_true_mapped n clause.literals)
    ∙ ap (λ r. if is_always_true clause.literals then [] else r)
    (ap (λ f. f ∷ map (further_form index (clause_renumbered n clause)) clause.conclude) (plain_mapped n index clause) ∙ ap (λ r. form_renumbered n (plain_form index clause) ∷ r) (furthers_mapped n index clause clause.conclude))
    ∙ none_or_mapped (form_renumbered n) (is_always_true clause.literals) (plain_form index clause ∷ map (further_form index clause) clause.conclude)

forms_from-mapped : (n : List ℕ) (at : ℕ) (clauses : List Clause) → forms_from at (renumbered n clauses) ≡ map (form_renumbered n) (forms_from at clauses)
forms_from-mapped n at [] = refl
forms_from-mapped n at (clause ∷ clauses) =
    ap (λ r. r ++ forms_from (at + 1) (renumbered n clauses)) (clause_forms-mapped n at clause)
    ∙ ap (λ r. map (form_renumbered n) (clause_forms at clause) ++ r) (forms_from-mapped n (at + 1) clauses)
    ∙ sym (map-append (form_renumbered n) (clause_forms at clause) (forms_from (at + 1) clauses))

-- and of all clauses
pub forms_of-mapped : (n : List ℕ) (clauses : List Clause) → forms_of (renumbered n clauses) ≡ map (form_renumbered n) (forms_of clauses)
forms_of-mapped n clauses = forms_from-mapped n 0 clauses

pub variables_mapped : (n : List ℕ) (items : List Item) → pattern_variables (pattern_renumbered n items) ≡ pattern_variables items
variables_mapped n [] = refl
variables_mapped n (Sym s ∷ items) = variables_mapped n items
variables_mapped n (Var v ∷ items) = ap (λ r. v ∷ r) (variables_mapped n items)

lits_mapped : (n : List ℕ) (lits : List PatLit) → lits_variables (map (lit_renumbered n) lits) ≡ lits_variables lits
lits_mapped n [] = refl
lits_mapped n (lit ∷ lits) =
    ap (λ r. r ++ lits_variables (map (lit_renumbered n) lits)) (variables_mapped n lit.pattern) ∙ ap (λ r. pattern_variables lit.pattern ++ r) (lits_mapped n lits)

pub restricted_mapped : (n : List ℕ) (form : Form) → is_restricted (form_renumbered n form) ≡ is_restricted form
restricted_mapped n form =
    ap (λ vs. list_all (λ v. is_among (lits_variables (map (lit_renumbered n) form.premises)) v) vs) (lits_mapped n form.conclusions)
    ∙ ap (λ vs. list_all (λ v. is_among vs v) (lits_variables form.conclusions)) (lits_mapped n form.premises)

free_mapped : (n : List ℕ) (form : Form) (v : ℕ) → is_free (form_renumbered n form) v ≡ is_free form v
free_mapped n form v =
    ap (λ vs. is_among vs v && not (is_among (lits_variables (map (lit_renumbered n) form.premises)) v)) (lits_mapped n form.conclusions)
    ∙ ap (λ vs. is_among (lits_variables form.conclusions) v && not (is_among vs v)) (lits_mapped n form.premises)

least_mapped : (n : List ℕ) (form : Form) (v : ℕ) → IsLeastFree (form_renumbered n form) v → IsLeastFree form v
least_mapped n form v r = record {
  free = sym (free_mapped n form v) ∙ r.free;
  least = λ other h. sym (free_mapped n form other) ∙ r.least other h;
}

pub all_mapped : {A : Type 0} (p : A → Bool) (f : A → A) → ((x : A) → p (f x) ≡ p x) → (xs : List A) → list_all p (map f xs) ≡ list_all p xs
all_mapped p f same [] = refl
all_mapped p f same (x ∷ xs) = ap (λ b. b && list_all p (map f xs)) (same x) ∙ ap (λ b. p x && b) (all_mapped p f same xs)

light_mapped : (n : List ℕ) (literal : ClauseLit) → is_light (literal_renumbered n literal) ≡ is_light literal
light_mapped n True = refl
light_mapped n False = refl
light_mapped n (Literal lit) = ap (λ m. nat_le m most_items) (length-map lit.pattern (item_renumbered n))

light_clause_mapped : (n : List ℕ) (clause : Clause) → is_light_clause (clause_renumbered n clause) ≡ is_light_clause clause
light_clause_mapped n clause = all_mapped is_light (literal_renumbered n) (light_mapped n) clause.literals

-- the clauses over the new numbers have no fault exactly where the clauses have none
pub faultless_mapped : (n : List ℕ) (clauses : List Clause) → is_faultless (renumbered n clauses) ≡ is_faultless clauses
faultless_mapped n clauses =
    let count : length (forms_of (renumbered n clauses)) ≡ length (forms_of clauses) = ap length (forms_of-mapped n clauses) ∙ length-map (forms_of clauses) (form_renumbered n) in
    let each : list_all is_restricted (forms_of (renumbered n clauses)) ≡ list_all is_restricted (forms_of clauses) =
    ap (list_all is_restricted) (forms_of-mapped n clauses) ∙ all_mapped is_restricted (form_renumbered n) (restricted_mapped n) (forms_of clauses) in
    ap (λ b. b && (nat_le (length (forms_of (renumbered n clauses))) most_forms && list_all is_restricted (forms_of (renumbered n clauses)))) (all_mapped is_light_clause (clause_renumbered n) (light_clause_mapped n) clauses)
    ∙ ap (λ m. list_all is_light_clause clauses && (nat_le m most_forms && list_all is_restricted (forms_of (renumbered n clauses)))) count
    ∙ ap (λ b. list_all is_light_clause clauses && (nat_le (length (forms_of clauses)) most_forms && b)) each

-- a list whose image has an element with those before and after it
record Unmapped {A B : Type 0} (f : A → B) (xs : List A) (before : List B) (x : B) (after : List B) : Type 0 where
  left : List A
  element : A
  right : List A
  xs_are : xs ≡ left ++ element ∷ right
  before_is : before ≡ map f left
  x_is : x ≡ f element
  after_is : after ≡ map f right

consed : {A : Type 0} (x y : A) (xs ys : List A) → x ≡ y → xs ≡ ys → x ∷ xs ≡ y ∷ ys
consed x y xs ys e f = cc

unmapped : {A B : Type 0} (f : A → B) (xs : List A) (before : List B) (x : B) (after : List B) → map f xs ≡ before ++ x ∷ after → Unmapped f xs before x after
unmapped f [] [] x after e = cc
unmapped f [] (b ∷ before) x after e = cc
unmapped f (y ∷ xs) [] x after e = record { left = []; element = y; right = xs; xs_are = refl; before_is = refl; x_is = cc; after_is = cc }
unmapped f (y ∷ xs) (b ∷ before) x after e =
    let head : b ≡ f y = cc in
    let tail : map f xs ≡ before ++ x ∷ after = cc in
    let rest = unmapped f xs before x after tail in
    record {
      left = y ∷ rest.left;
      element = rest.element;
      right = rest.right;
      xs_are = ap (λ r. y ∷ r) rest.xs_are;
      before_is = consed b (f y) before (map f rest.left) head rest.before_is;
      x_is = rest.x_is;
      after_is = rest.after_is;
    }

heavy_unmapped : (n : List ℕ) (literals : List ClauseLit) (position : ℕ) → IsFirstHeavy (map (literal_renumbered n) literals) position → IsFirstHeavy literals position
heavy_unmapped n literals position r =
    let split = unmapped (literal_renumbered n) literals r.before r.literal r.after r.literals_are in
    record {
      before = split.left;
      literal = split.element;
      after = split.right;
      literals_are = split.xs_are;
      position_is = r.position_is ∙ ap (λ m. m + 1) (ap length split.before_is ∙ length-map split.left (literal_renumbered n));
      light = sym (all_mapped is_light (literal_renumbered n) (light_mapped n) split.left) ∙ ap (list_all is_light) (sym split.before_is) ∙ r.light;
      heavy = sym (light_mapped n split.element) ∙ ap is_light (sym split.x_is) ∙ r.heavy;
    }

reached_unmapped : (n : List ℕ) (clauses : List Clause) (index number : ℕ) (form : Form) → IsReached (renumbered n clauses) index number form → (old : Form) × (form ≡ form_renumbered n old) × IsReached clauses index number old
reached_unmapped n clauses index number form r =
    let split = unmapped (clause_renumbered n) clauses r.before r.clause r.after r.clauses_are in
    let inner = unmapped (form_renumbered n) (clause_forms index split.element) r.earlier form r.later (sym (clause_forms-mapped n index split.element) ∙ ap (clause_forms index) (sym split.x_is) ∙ r.forms_are) in (
      inner.element,
      inner.x_is,
      record {
        before = split.left;
        clause = split.element;
        after = split.right;
        clauses_are = split.xs_are;
        index_is = r.index_is ∙ ap length split.before_is ∙ length-map split.left (clause_renumbered n);
        faultless = sym (faultless_mapped n split.left) ∙ ap is_faultless (sym split.before_is) ∙ r.faultless;
        light = sym (light_clause_mapped n split.element) ∙ ap is_light_clause (sym split.x_is) ∙ r.light;
        earlier = inner.left;
        later = inner.right;
        forms_are = inner.xs_are;
        number_is =
            r.number_is
            ∙ ap (λ m. m + length r.earlier + 1) (ap (λ cs. length (forms_of cs)) split.before_is ∙ ap length (forms_of-mapped n split.left) ∙ length-map (forms_of split.left) (form_renumbered n))
            ∙ ap (λ m. length (forms_of split.left) + m + 1) (ap length inner.before_is ∙ length-map inner.left (form_renumbered n));
        few = r.few;
        restricted = sym (all_mapped is_restricted (form_renumbered n) (restricted_mapped n) inner.left) ∙ ap (list_all is_restricted) (sym inner.before_is) ∙ r.restricted;
      },
    )

-- a fault of the clauses over the new numbers is one of the clauses
pub stands_unmapped : (n : List ℕ) (clauses : List Clause) (fault : FormFault) → Stands (renumbered n clauses) fault → Stands clauses fault
stands_unmapped n clauses (TooHeavy index position) r =
    let split = unmapped (clause_renumbered n) clauses r.before r.clause r.after r.clauses_are in
    record {
      before = split.left;
      clause = split.element;
      after = split.right;
      clauses_are = split.xs_are;
      index_is = r.index_is ∙ ap length split.before_is ∙ length-map split.left (clause_renumbered n);
      faultless = sym (faultless_mapped n split.left) ∙ ap is_faultless (sym split.before_is) ∙ r.faultless;
      first = heavy_unmapped n split.element.literals position (subst (λ (clause : Clause). IsFirstHeavy clause.literals position) split.x_is r.first);
    }
stands_unmapped n clauses (TooManyForms index) r =
    let old = reached_unmapped n clauses index (most_forms + 1) r.0 r.1 in
    (old.0, old.2)
stands_unmapped n clauses (NotRestricted index number variable) r =
    let old = reached_unmapped n clauses index number r.0 r.1 in
    (old.0, old.2, r.2, least_mapped n old.0 variable (subst (λ form. IsLeastFree form variable) old.1 r.3))
stands_unmapped n clauses NoMemory r = tt
