-- The variables of a problem's form are exactly those of its premises.
use Rattle.std.proofs.Common.{◌≡◌, ℕ, zero, suc, ◌+◌, ◌<◌, Bool, true, false, true≢false, List, [], ◌∷◌, ◌++◌, map, length, Option, Some, None, slice_get, refl, sym, ap, subst, ◌∙◌, ◌⊎◌, inl, inr, if◌then◌else◌, nat_lt, nat_eq}
use Rattle.std.specs.List.{list_all, flat_map}
use Rattle.std.specs.Option.{option_map_or}
use Rattle.std.proofs.lemmas.Bool.{ltb-true, lt-ltb, eqb-true}
use Rattle.std.proofs.lemmas.List.Elements.{All-contains}
use Rattle.mg_word.specs.Table.{Symbol}
use Rattle.mg_word.specs.Words.{are_patterns, pattern_fits, numbered}
use Rattle.mg_word.specs.Forms.{opposite, premises_of, conclusions_of, is_among, chosen_from, others_from, is_always_true, plain_form, further_form, clause_forms, forms_from, pattern_variables, lits_variables, is_restricted}
use Rattle.mg_word.specs.Facts.{ProblemData, IsProblem, IsClause, literal_fits, literal_variables}
use Rattle.mg_word.specs.declared.item.Item.{Item}
use Rattle.mg_word.specs.declared.item.Item.TheVariants.{Sym, Var}
use Rattle.mg_word.specs.declared.lit.PatLit.{PatLit}
use Rattle.mg_word.specs.declared.clause.Clause.{Clause}
use Rattle.mg_word.specs.declared.clause.ClauseLit.{ClauseLit}
use Rattle.mg_word.specs.declared.clause.ClauseLit.TheVariants.{True, False, Lit as Literal}
use Rattle.mg_word.specs.declared.form.Form.{Form}
use Rattle.mg_word.proofs.Members.{both_true, either_true, or_true, same_tests}
use Rattle.mg_meaning.proofs.Lists.{Among, among-append, among-map, contains_from}
use Rattle.mg_meaning.proofs.Bindings.{is_among-append}

-- a number is among two joined lists where it is among one
pub among_cases : (xs ys : List ℕ) (k : ℕ) → is_among (xs ++ ys) k ≡ true → (is_among xs k ≡ true) ⊎ (is_among ys k ≡ true)
among_cases xs ys k there = either_true (is_among xs k) (is_among ys k) (sym (is_among-append xs ys k) ∙ there)

pub among_front : (xs ys : List ℕ) (k : ℕ) → is_among xs k ≡ true → is_among (xs ++ ys) k ≡ true
among_front xs ys k there = is_among-append xs ys k ∙ or_true (is_among xs k) (is_among ys k) (inl there)

pub among_back : (xs ys : List ℕ) (k : ℕ) → is_among ys k ≡ true → is_among (xs ++ ys) k ≡ true
among_back xs ys k there = is_among-append xs ys k ∙ or_true (is_among xs k) (is_among ys k) (inr there)

-- of a form whose literals are those of a clause, complemented or not: each variable of the clause is in one, and no others are
pub record HasVariables (literals : List ClauseLit) (premises conclusions : List PatLit) : Type 0 where
  pub all : (k : ℕ) → is_among (flat_map literal_variables literals) k ≡ true → (is_among (lits_variables premises) k ≡ true) ⊎ (is_among (lits_variables conclusions) k ≡ true)
  pub only : (k : ℕ) → is_among (lits_variables premises) k ≡ true → is_among (flat_map literal_variables literals) k ≡ true

no_literals : HasVariables [] [] []
no_literals = record { all = λ k there. absurd (true≢false (sym there)); only = λ k there. absurd (true≢false (sym there)) }

constant_more : (literals : List ClauseLit) (premises conclusions : List PatLit) → HasVariables literals premises conclusions → HasVariables (False ∷ literals) premises conclusions
constant_more literals premises conclusions has = record { all = has.all; only = has.only }

true_more : (literals : List ClauseLit) (premises conclusions : List PatLit) → HasVariables literals premises conclusions → HasVariables (True ∷ literals) premises conclusions
true_more literals premises conclusions has = record { all = has.all; only = has.only }

-- the literal, or its complement, is a premise or a conclusion more
literal_more : (lit : PatLit) (literals : List ClauseLit) (chosen : Bool) (premises conclusions : List PatLit) → HasVariables literals premises conclusions
    → HasVariables (Literal lit ∷ literals) (if chosen then premises else opposite lit ∷ premises) (if chosen then lit ∷ conclusions else conclusions)
literal_more lit literals true premises conclusions has = record {
  all = λ k there. elim (among_cases (pattern_variables lit.pattern) (flat_map literal_variables literals) k there) [
    | inl here ↦ inr (among_front (pattern_variables lit.pattern) (lits_variables conclusions) k here)
    | inr later ↦ elim (has.all k later) [
      | inl premise ↦ inl premise
      | inr conclusion ↦ inr (among_back (pattern_variables lit.pattern) (lits_variables conclusions) k conclusion)
    ]
  ];
  only = λ k there. among_back (pattern_variables lit.pattern) (flat_map literal_variables literals) k (has.only k there);
}
literal_more lit literals false premises conclusions has = record {
  all = λ k there. elim (among_cases (pattern_variables lit.pattern) (flat_map literal_variables literals) k there) [
    | inl here ↦ inl (among_front (pattern_variables lit.pattern) (lits_variables premises) k here)
    | inr later ↦ elim (has.all k later) [
      | inl premise ↦ inl (among_back (pattern_variables lit.pattern) (lits_variables premises) k premise)
      | inr conclusion ↦ inr conclusion
    ]
  ];
  only = λ k there. elim (among_cases (pattern_variables lit.pattern) (lits_variables premises) k there) [
    | inl here ↦ among_front (pattern_variables lit.pattern) (flat_map literal_variables literals) k here
    | inr later ↦ among_back (pattern_variables lit.pattern) (flat_map literal_variables literals) k (has.only k later)
  ];
}

plain_has : (literals : List ClauseLit) → HasVariables literals (premises_of literals) (conclusions_of literals)
plain_has [] = no_literals
plain_has (True ∷ literals) = true_more literals (premises_of literals) (conclusions_of literals) (plain_has literals)
plain_has (False ∷ literals) = constant_more literals (premises_of literals) (conclusions_of literals) (plain_has literals)
plain_has (Literal lit ∷ literals) = by lit.negative (plain_has literals)
  where
    by : (negative : Bool) → HasVariables literals (premises_of literals) (conclusions_of literals)
        → HasVariables (Literal lit ∷ literals) (if negative then opposite lit ∷ premises_of literals else premises_of literals) (if negative then conclusions_of literals else lit ∷ conclusions_of literals)
    by true has = literal_more lit literals false (premises_of literals) (conclusions_of literals) has
    by false has = literal_more lit literals true (premises_of literals) (conclusions_of literals) has

further_has : (at : ℕ) (chosen : List ℕ) (literals : List ClauseLit) → HasVariables literals (others_from at chosen literals) (chosen_from at chosen literals)
further_has at chosen [] = no_literals
further_has at chosen (True ∷ literals) = true_more literals (others_from (at + 1) chosen literals) (chosen_from (at + 1) chosen literals) (further_has (at + 1) chosen literals)
further_has at chosen (False ∷ literals) = constant_more literals (others_from (at + 1) chosen literals) (chosen_from (at + 1) chosen literals) (further_has (at + 1) chosen literals)
further_has at chosen (Literal lit ∷ literals) = literal_more lit literals (is_among chosen at) (others_from (at + 1) chosen literals) (chosen_from (at + 1) chosen literals) (further_has (at + 1) chosen literals)

-- a form of one of the clauses
pub record IsFormOf (clauses : List Clause) (form : Form) : Type 0 where
  pub clause : Clause
  pub there : Among clauses clause
  pub variables : form.variables ≡ length clause.variables
  pub has : HasVariables clause.literals form.premises form.conclusions

clause_form_is : (index : ℕ) (clause : Clause) (clauses : List Clause) (form : Form) → Among clauses clause → Among (clause_forms index clause) form → IsFormOf clauses form
clause_form_is index clause clauses form there is = by (is_always_true clause.literals) is
  where
    by : (always : Bool) → Among (if always then [] else plain_form index clause ∷ map (further_form index clause) clause.conclude) form → IsFormOf clauses form
    by true is = absurd is
    by false (inl same) = subst (IsFormOf clauses) same (record { clause = clause; there = there; variables = refl; has = plain_has clause.literals })
    by false (inr later) =
        let (chosen, item, same) = among-map (further_form index clause) clause.conclude form later in
        subst (IsFormOf clauses) same (record { clause = clause; there = there; variables = refl; has = further_has 1 chosen clause.literals })

wider : (first : Clause) (clauses : List Clause) (form : Form) → IsFormOf clauses form → IsFormOf (first ∷ clauses) form
wider first clauses form is = record { clause = is.clause; there = inr is.there; variables = is.variables; has = is.has }

form_is : (index : ℕ) (clauses : List Clause) (form : Form) → Among (forms_from index clauses) form → IsFormOf clauses form
form_is index [] form there = absurd there
form_is index (clause ∷ clauses) form there = elim (among-append (clause_forms index clause) (forms_from (index + 1) clauses) form there) [
  | inl own ↦ clause_form_is index clause (clause ∷ clauses) form (inl refl) own
  | inr later ↦ wider clause clauses form (form_is (index + 1) clauses form later)
]

-- a fitting pattern has variables below their number alone
pattern_below : (table : List Symbol) (variables wanted : ℕ) (items : List Item) (k : ℕ) → are_patterns table variables wanted items ≡ true → is_among (pattern_variables items) k ≡ true → k < variables
pattern_below table variables wanted [] k fine there = absurd (true≢false (sym there))
pattern_below table variables zero (item ∷ items) k fine there = absurd (true≢false (sym fine))
pattern_below table variables (suc wanted) (Sym symbol ∷ items) k fine there = by (slice_get table symbol) fine (λ more. pattern_below table variables more items k)
  where
    by : (entry : Option Symbol) → option_map_or (λ (found : Symbol). are_patterns table variables (found.arity + wanted) items) entry false ≡ true
        → ((more : ℕ) → are_patterns table variables more items ≡ true → is_among (pattern_variables items) k ≡ true → k < variables) → k < variables
    by None fine go = absurd (true≢false (sym fine))
    by (Some entry) fine go = go (entry.arity + wanted) fine there
pattern_below table variables (suc wanted) (Var variable ∷ items) k fine there =
    let parts = both_true (nat_lt variable variables) (are_patterns table variables wanted items) fine in
    elim (either_true (nat_eq variable k) (is_among (pattern_variables items) k) there) [
      | inl same ↦ let is : variable ≡ k = eqb-true variable k same in subst (λ n. n < variables) is (ltb-true variable variables parts.0)
      | inr later ↦ pattern_below table variables wanted items k parts.1 later
    ]

literals_below : (table : List Symbol) (variables : ℕ) (literals : List ClauseLit) (k : ℕ) → list_all (literal_fits table variables) literals ≡ true → is_among (flat_map literal_variables literals) k ≡ true → k < variables
literals_below table variables [] k fine there = absurd (true≢false (sym there))
literals_below table variables (True ∷ literals) k fine there = literals_below table variables literals k fine there
literals_below table variables (False ∷ literals) k fine there = literals_below table variables literals k fine there
literals_below table variables (Literal lit ∷ literals) k fine there =
    let parts = both_true (pattern_fits table variables lit.pattern) (list_all (literal_fits table variables) literals) fine in
    elim (among_cases (pattern_variables lit.pattern) (flat_map literal_variables literals) k there) [
      | inl here ↦ pattern_below table variables 1 lit.pattern k parts.0 here
      | inr later ↦ literals_below table variables literals k parts.1 later
    ]

pub numbered_among : (forms : List Form) (number : ℕ) (form : Form) → numbered forms number ≡ Some form → Among forms form
numbered_among forms zero form at = absurd (let bad : ⊥ = cc in bad)
numbered_among forms (suc k) form at = go forms k at
  where
    go : (some : List Form) (k : ℕ) → slice_get some k ≡ Some form → Among some form
    go [] k at = absurd (let bad : ⊥ = cc in bad)
    go (first ∷ some) zero at = inl (let same : first ≡ form = cc in same)
    go (first ∷ some) (suc k) at = inr (go some k at)

pub passing_at : (test : ℕ → Bool) (xs : List ℕ) (k : ℕ) → list_all test xs ≡ true → is_among xs k ≡ true → test k ≡ true
passing_at test [] k all there = absurd (true≢false (sym there))
passing_at test (x ∷ xs) k all there =
    let parts = both_true (test x) (list_all test xs) all in
    elim (either_true (nat_eq x k) (is_among xs k) there) [
      | inl same ↦ ap test (sym (eqb-true x k same)) ∙ parts.0
      | inr later ↦ passing_at test xs k parts.1 later
    ]

pub passing_form : (test : Form → Bool) (forms : List Form) (form : Form) → list_all test forms ≡ true → Among forms form → test form ≡ true
passing_form test [] form all there = absurd there
passing_form test (first ∷ forms) form all (inl same) = ap test (sym same) ∙ (both_true (test first) (list_all test forms) all).0
passing_form test (first ∷ forms) form all (inr later) = passing_form test forms form (both_true (test first) (list_all test forms) all).1 later

-- each variable of a form is in a premise, and no other is
pub premise_variables : (problem : ProblemData) → IsProblem problem → (number : ℕ) (form : Form) → numbered problem.forms number ≡ Some form → (k : ℕ) → is_among (lits_variables form.premises) k ≡ nat_lt k form.variables
premise_variables problem real number form at k = same_tests (is_among (lits_variables form.premises) k) (nat_lt k form.variables) below above
  where
    there : Among problem.forms form
    there = numbered_among problem.forms number form at

    is : IsFormOf problem.clauses form
    is = form_is 0 problem.clauses form (subst (λ forms. Among forms form) real.formed there)

    clause : IsClause problem.symbols (length problem.files) is.clause
    clause = All-contains (IsClause problem.symbols (length problem.files)) problem.clauses is.clause real.input.each (contains_from problem.clauses is.clause is.there)

    below : is_among (lits_variables form.premises) k ≡ true → nat_lt k form.variables ≡ true
    below in_premise = lt-ltb k form.variables (subst (λ n. k < n) (sym is.variables) (literals_below problem.symbols (length is.clause.variables) is.clause.literals k clause.fitting (is.has.only k in_premise)))

    above : nat_lt k form.variables ≡ true → is_among (lits_variables form.premises) k ≡ true
    above small = elim (is.has.all k (clause.occurring k (subst (λ n. k < n) is.variables (ltb-true k form.variables small)))) [
      | inl premise ↦ premise
      | inr conclusion ↦ passing_at (is_among (lits_variables form.premises)) (lits_variables form.conclusions) k (passing_form is_restricted problem.forms form real.restricted there) conclusion
    ]
