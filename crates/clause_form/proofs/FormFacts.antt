-- The forms of clauses name their clauses, and their literals fit the table.
use Rattle.std.proofs.Common.{◌≡◌, ℕ, zero, suc, ◌+◌, ◌-◌, ◌<◌, ◌≤◌, Bool, true, false, List, [], ◌∷◌, ◌++◌, length, map, get_or, refl, sym, ◌∙◌, ap, subst, arith, All, Some, if◌then◌else◌, append_assoc, slice_get}
use Rattle.std.proofs.lemmas.List.Elements.{All-nil, All-cons, All-append, All-map, All-head, All-tail}
use Rattle.std.proofs.lemmas.Option.{slice_get_read}
use Rattle.std.specs.List.{list_all}
use Rattle.mg_word.specs.Table.{Symbol}
use Rattle.mg_word.specs.Words.{pattern_fits, numbered}
use Rattle.mg_word.specs.Forms.{premises_of, conclusions_of, others_from, chosen_from, is_always_true, is_among, opposite, plain_form, further_form, clause_forms, forms_from, forms_of}
use Rattle.mg_word.specs.Facts.{IsClause, ProblemData, literal_fits, is_light_lit, is_light_form}
use Rattle.clause_form.specs.Faults.{is_light, is_light_clause}
use Rattle.clause_form.proofs.InputFacts.{list_all-from_All}
use Rattle.std.proofs.lemmas.List.Folds.{list_all-append}
use Rattle.mg_word.specs.declared.lit.PatLit.{PatLit}
use Rattle.mg_word.specs.declared.clause.ClauseLit.{ClauseLit}
use Rattle.mg_word.specs.declared.clause.ClauseLit.TheVariants.{True, False, Lit as Literal}
use Rattle.mg_word.specs.declared.clause.Clause.{Clause}
use Rattle.mg_word.specs.declared.form.Form.{Form}
use Rattle.std.specs.Option.{option_map, option_and_then}
use Rattle.clause_form.specs.Lines.{IsSpelled, form_line, line_of}
use Rattle.mg_word.proofs.Members.{both_true}

abbrev pub lit_fits : List Symbol → ℕ → PatLit → Bool
lit_fits table variables lit = pattern_fits table variables lit.pattern

-- the form names one of so many clauses, and its literals fit
pub record IsRight (table : List Symbol) (count : ℕ) (form : Form) : Type 0 where
  pub known : form.clause < count
  pub premises : list_all (lit_fits table form.variables) form.premises ≡ true
  pub conclusions : list_all (lit_fits table form.variables) form.conclusions ≡ true

all_chosen : (p : PatLit → Bool) (b : Bool) (x : PatLit) (xs : List PatLit) → p x ≡ true → list_all p xs ≡ true → list_all p (if b then x ∷ xs else xs) ≡ true
all_chosen p true x xs here rest = rw here rest
all_chosen p false x xs here rest = rest

all_unchosen : (p : PatLit → Bool) (b : Bool) (x : PatLit) (xs : List PatLit) → p x ≡ true → list_all p xs ≡ true → list_all p (if b then xs else x ∷ xs) ≡ true
all_unchosen p true x xs here rest = rest
all_unchosen p false x xs here rest = rw here rest

premises_hold : (q : ClauseLit → Bool) (p : PatLit → Bool) → ((lit : PatLit) → q (Literal lit) ≡ true → (p lit ≡ true) × (p (opposite lit) ≡ true)) → (ls : List ClauseLit) → list_all q ls ≡ true → list_all p (premises_of ls) ≡ true
premises_hold q p on [] e = refl
premises_hold q p on (True ∷ ls) e = premises_hold q p on ls (both_true (q True) (list_all q ls) e).1
premises_hold q p on (False ∷ ls) e = premises_hold q p on ls (both_true (q False) (list_all q ls) e).1
premises_hold q p on (Literal lit ∷ ls) e =
    let both = both_true (q (Literal lit)) (list_all q ls) e in
    all_chosen p lit.negative (opposite lit) (premises_of ls) (on lit both.0).1 (premises_hold q p on ls both.1)

conclusions_hold : (q : ClauseLit → Bool) (p : PatLit → Bool) → ((lit : PatLit) → q (Literal lit) ≡ true → (p lit ≡ true) × (p (opposite lit) ≡ true)) → (ls : List ClauseLit) → list_all q ls ≡ true → list_all p (conclusions_of ls) ≡ true
conclusions_hold q p on [] e = refl
conclusions_hold q p on (True ∷ ls) e = conclusions_hold q p on ls (both_true (q True) (list_all q ls) e).1
conclusions_hold q p on (False ∷ ls) e = conclusions_hold q p on ls (both_true (q False) (list_all q ls) e).1
conclusions_hold q p on (Literal lit ∷ ls) e =
    let both = both_true (q (Literal lit)) (list_all q ls) e in
    all_unchosen p lit.negative lit (conclusions_of ls) (on lit both.0).0 (conclusions_hold q p on ls both.1)

others_hold : (q : ClauseLit → Bool) (p : PatLit → Bool) → ((lit : PatLit) → q (Literal lit) ≡ true → (p lit ≡ true) × (p (opposite lit) ≡ true)) → (at : ℕ) (chosen : List ℕ) (ls : List ClauseLit) → list_all q ls ≡ true → list_all p (others_from at chosen ls) ≡ true
others_hold q p on at chosen [] e = refl
others_hold q p on at chosen (True ∷ ls) e = others_hold q p on (at + 1) chosen ls (both_true (q True) (list_all q ls) e).1
others_hold q p on at chosen (False ∷ ls) e = others_hold q p on (at + 1) chosen ls (both_true (q False) (list_all q ls) e).1
others_hold q p on at chosen (Literal lit ∷ ls) e =
    let both = both_true (q (Literal lit)) (list_all q ls) e in
    all_unchosen p (is_among chosen at) (opposite lit) (others_from (at + 1) chosen ls) (on lit both.0).1 (others_hold q p on (at + 1) chosen ls both.1)

chosen_hold : (q : ClauseLit → Bool) (p : PatLit → Bool) → ((lit : PatLit) → q (Literal lit) ≡ true → (p lit ≡ true) × (p (opposite lit) ≡ true)) → (at : ℕ) (chosen : List ℕ) (ls : List ClauseLit) → list_all q ls ≡ true → list_all p (chosen_from at chosen ls) ≡ true
chosen_hold q p on at chosen [] e = refl
chosen_hold q p on at chosen (True ∷ ls) e = chosen_hold q p on (at + 1) chosen ls (both_true (q True) (list_all q ls) e).1
chosen_hold q p on at chosen (False ∷ ls) e = chosen_hold q p on (at + 1) chosen ls (both_true (q False) (list_all q ls) e).1
chosen_hold q p on at chosen (Literal lit ∷ ls) e =
    let both = both_true (q (Literal lit)) (list_all q ls) e in
    all_chosen p (is_among chosen at) lit (chosen_from (at + 1) chosen ls) (on lit both.0).0 (chosen_hold q p on (at + 1) chosen ls both.1)

-- what holds of the literals of clauses holds of those of their forms
pub sides_hold : (q : ClauseLit → Bool) (p : PatLit → Bool) → ((lit : PatLit) → q (Literal lit) ≡ true → (p lit ≡ true) × (p (opposite lit) ≡ true)) → (P : Form → Type 0) → (index : ℕ) (clause : Clause)
    → ((form : Form) → form.clause ≡ index → form.variables ≡ length clause.variables → list_all p form.premises ≡ true → list_all p form.conclusions ≡ true → P form)
    → (test : Bool) → list_all q clause.literals ≡ true → All P (if test then [] else plain_form index clause ∷ map (further_form index clause) clause.conclude)
sides_hold q p on P index clause make true e = All-nil P
sides_hold q p on P index clause make false e =
    All-cons P (plain_form index clause) (map (further_form index clause) clause.conclude)
    (make (plain_form index clause) refl refl (premises_hold q p on clause.literals e) (conclusions_hold q p on clause.literals e))
    (All-map P (further_form index clause) clause.conclude
    (λ k d within. let chosen = get_or clause.conclude k d in
    make (further_form index clause chosen) refl refl (others_hold q p on 1 chosen clause.literals e) (chosen_hold q p on 1 chosen clause.literals e)))

-- the forms of one clause
right_forms : (table : List Symbol) (count index : ℕ) (clause : Clause) (test : Bool) → index < count → list_all (literal_fits table (length clause.variables)) clause.literals ≡ true
    → All (IsRight table count) (if test then [] else plain_form index clause ∷ map (further_form index clause) clause.conclude)
right_forms table count index clause test h e =
    sides_hold (literal_fits table (length clause.variables)) (lit_fits table (length clause.variables)) (λ lit k. (k, k)) (IsRight table count) index clause
    (λ form at variables premises conclusions. record {
      known = subst (λ n. n < count) (sym at) h;
      premises = ap (λ v. list_all (lit_fits table v) form.premises) variables ∙ premises;
      conclusions = ap (λ v. list_all (lit_fits table v) form.conclusions) variables ∙ conclusions;
    }) test e

-- the forms of clauses that are counted from that index
all_right : (table : List Symbol) (files count at : ℕ) (clauses : List Clause) → at + length clauses ≤ count → All (IsClause table files) clauses → All (IsRight table count) (forms_from at clauses)
all_right table files count at [] h all = All-nil (IsRight table count)
all_right table files count at (clause ∷ clauses) h all =
    let first = All-head (IsClause table files) clause clauses all in
    All-append (IsRight table count) (clause_forms at clause) (forms_from (at + 1) clauses)
    (right_forms table count at clause (is_always_true clause.literals) (omega arith) first.fitting)
    (all_right table files count (at + 1) clauses (omega arith) (All-tail (IsClause table files) clause clauses all))

pub forms_right : (table : List Symbol) (files : ℕ) (clauses : List Clause) → All (IsClause table files) clauses → All (IsRight table (length clauses)) (forms_of clauses)
forms_right table files clauses all = all_right table files (length clauses) 0 clauses (omega arith) all

-- the forms of light clauses have light literals
light_clause_forms : (index : ℕ) (clause : Clause) → is_light_clause clause ≡ true → list_all is_light_form (clause_forms index clause) ≡ true
light_clause_forms index clause e =
    list_all-from_All is_light_form (clause_forms index clause)
    (sides_hold is_light is_light_lit (λ lit k. (k, k)) (λ form. is_light_form form ≡ true) index clause (λ form at variables premises conclusions. rw premises conclusions) (is_always_true clause.literals) e)

light_from : (at : ℕ) (clauses : List Clause) → list_all is_light_clause clauses ≡ true → list_all is_light_form (forms_from at clauses) ≡ true
light_from at [] e = refl
light_from at (clause ∷ clauses) e =
    let both = both_true (is_light_clause clause) (list_all is_light_clause clauses) e in
    list_all-append is_light_form (clause_forms at clause) (forms_from (at + 1) clauses) ∙ rw (light_clause_forms at clause both.0) (light_from (at + 1) clauses both.1)

pub light_forms : (clauses : List Clause) → list_all is_light_clause clauses ≡ true → list_all is_light_form (forms_of clauses) ≡ true
light_forms clauses e = light_from 0 clauses e

-- literals that fit have spellings
pub all_spelled : (table : List Symbol) (v : ℕ) (lits : List PatLit) → list_all (lit_fits table v) lits ≡ true → All (IsSpelled table) lits
all_spelled table v [] e = All-nil (IsSpelled table)
all_spelled table v (lit ∷ lits) e =
    let both = both_true (lit_fits table v lit) (list_all (lit_fits table v) lits) e in
    All-cons (IsSpelled table) lit lits (v, both.0) (all_spelled table v lits both.1)

-- the item with a number
pub numbered_at : {X : Type 0} (xs : List X) (n : ℕ) (x : X) → 0 < n → n ≤ length xs → x ≡ get_or xs (n - 1) x → numbered xs n ≡ Some x
numbered_at xs zero x above within is = absurd (omega arith)
numbered_at xs (suc k) x above within is =
    let e : suc k - 1 ≡ k = omega arith in
    let h : k < length xs = omega arith in
    slice_get_read xs (length xs) k x refl h (is ∙ ap (λ n. get_or xs n x) e)

-- four pieces, added one by one
pub four_added : (start a b c d second third fourth last : List ℕ) → start ≡ [] → second ≡ start ++ a → third ≡ second ++ b → fourth ≡ third ++ c → last ≡ fourth ++ d → last ≡ a ++ (b ++ (c ++ d))
four_added start a b c d second third fourth last e1 e2 e3 e4 e5 =
    e5 ∙ ap (λ r. r ++ d) (e4 ∙ ap (λ r. r ++ c) (e3 ∙ ap (λ r. r ++ b) (e2 ∙ ap (λ r. r ++ a) e1))) ∙ append_assoc (a ++ b) c d ∙ append_assoc a b (c ++ d)

-- a form of a problem, by its index
right_at : (table : List Symbol) (files : ℕ) (clauses : List Clause) (forms slice : List Form) (k : ℕ) (form : Form) → All (IsClause table files) clauses → forms ≡ forms_of clauses → slice ≡ forms → k < length slice → form ≡ get_or slice k form → IsRight table (length clauses) form
right_at table files clauses forms slice k form all formed slice_is h is =
    let at_slice : All (IsRight table (length clauses)) slice = subst (λ (fs : List Form). All (IsRight table (length clauses)) fs) (sym (slice_is ∙ formed)) (forms_right table files clauses all) in
    subst (λ f. IsRight table (length clauses) f) (sym is) (at_slice k form h)

-- a form of a problem, by its number
pub numbered_right : (problem : ProblemData) (table : List Symbol) (files : List (List ℕ)) (clauses : List Clause) (forms slice : List Form) (number : ℕ) (form : Form)
    → record { symbols = table; files = files; clauses = clauses; forms = forms } ≡ problem → All (IsClause table (length files)) clauses → forms ≡ forms_of clauses → slice ≡ forms → 0 < number → number ≤ length problem.forms → form ≡ get_or slice (number - 1) form
    → (number ≤ length forms) × IsRight table (length clauses) form
numbered_right problem table files clauses forms slice number form view all formed slice_is above within is =
    let place : number ≤ length forms = subst (λ (p : ProblemData). number ≤ length p.forms) (sym view) within in
    let count : length slice ≡ length forms = ap (λ (fs : List Form). length fs) slice_is in
    (place, right_at table (length files) clauses forms slice (number - 1) form all formed slice_is (omega (arith, place, count, above)) is)

-- the line of a problem's form
pub line_at : (symbols : List Symbol) (files : List (List ℕ)) (clauses : List Clause) (forms : List Form) (number : ℕ) (form : Form) (clause : Clause) (text : List ℕ) → 0 < number → number ≤ length forms → form ≡ get_or forms (number - 1) form → form.clause < length clauses → clause ≡ get_or clauses form.clause clause
    → text ≡ form_line symbols clause.name number form → line_of (record { symbols = symbols; files = files; clauses = clauses; forms = forms }) number ≡ Some text
line_at symbols files clauses forms number form clause text above within is known clause_is text_is =
    ap (λ found. option_and_then (λ (f : Form). option_map (λ (c : Clause). form_line symbols c.name number f) (slice_get clauses f.clause)) found) (numbered_at forms number form above within is)
    ∙ ap (λ found. option_map (λ (c : Clause). form_line symbols c.name number form) found) (slice_get_read clauses (length clauses) form.clause clause refl known clause_is)
    ∙ ap (λ t. Some t) (sym text_is)
