-- Where ground instances refute, each branch violates an instance no heavier than their positive literals.
use Rattle.std.proofs.Common.{◌≡◌, ◌≢◌, ℕ, zero, suc, ◌+◌, ◌<◌, ◌≤◌, Bool, true, false, true≢false, ◌&&◌, List, [], ◌∷◌, length, All, Contains, IsTrue, ◌↔◌, Some, None, Option, slice_get, slice_index_or, nat_lt, nat_eq, refl, sym, ap, subst, ◌∙◌, inl, inr, arith}
use Rattle.std.specs.List.{list_all}
use Rattle.std.specs.Option.{option_map_or}
use Rattle.std.specs.declared.cmp.Ordering.{Ordering}
use Rattle.std.specs.declared.cmp.Ordering.TheVariants.{Less, Equal, Greater}
use Rattle.std.specs.Ordering.{nat_cmp, ordering_then}
use Rattle.std.proofs.lemmas.Cmp.{tied_itself}
use Rattle.std.proofs.lemmas.Bool.{cases_lt, lt-ltb, ltb-true, eq-eqb, eqb-true}
use Rattle.std.proofs.lemmas.Option.{slice_get_within}
use Rattle.std.proofs.lemmas.List.Elements.{All-head, All-tail}
use Rattle.std.proofs.lemmas.List.Folds.{list_all-append}
use Rattle.std.proofs.lemmas.List.{length-append}
use Rattle.mg_word.specs.Table.{Symbol}
use Rattle.mg_word.specs.Words.{are_terms, fits, are_patterns, pattern_fits, instance_of, lit_instances, form_instance}
use Rattle.mg_word.specs.Forms.{plain_form, conclusions_of}
use Rattle.mg_word.specs.Facts.{ProblemData, IsProblem, IsClause}
use Rattle.mg_word.specs.declared.item.Item.{Item}
use Rattle.mg_word.specs.declared.item.Item.TheVariants.{Sym, Var}
use Rattle.mg_word.specs.declared.lit.Lit.{Lit}
use Rattle.mg_word.specs.declared.lit.PatLit.{PatLit}
use Rattle.mg_word.specs.declared.clause.Clause.{Clause}
use Rattle.mg_word.specs.declared.form.Inst.{Inst}
use Rattle.mg_word.proofs.Members.{both_true, and_true}
use Rattle.mg_meaning.specs.Truth.{Ground, makes_true, clause_true, atoms_of}
use Rattle.mg_meaning.specs.Refuting.{IsClauseInstance, Refutes}
use Rattle.mg_meaning.specs.Instances.{IsInstance}
use Rattle.mg_meaning.specs.Violation.{is_violated, heaviest, weight_of, subst_cmp, inst_cmp, IsLeast}
use Rattle.mg_meaning.specs.Bound.{positive_weight}
use Rattle.mg_meaning.specs.Listing.{violated_in}
use Rattle.mg_meaning.proofs.Lists.{Among, All-at, among_from, contains_from}
use Rattle.mg_meaning.proofs.InstOrders.{inst_total}
use Rattle.mg_meaning.proofs.Excluded.{violated_from}
use Rattle.mg_meaning.proofs.Herbrand.{missed_from, plain_among, among_numbered}
use Rattle.mg_meaning.proofs.Listings.{violated_exact}
use Rattle.mg_meaning.proofs.FormTruth.{form_of_clause}
use Rattle.mg_meaning.proofs.Room.{all_below}

-- where a branch's atoms leave a ground instance untrue, its plain form's instance is violated
unmade : (problem : ProblemData) → IsProblem problem → (held : List Lit) (ground : Ground) → IsClauseInstance problem ground → makes_true problem.clauses (atoms_of held) ground ≡ false
    → (inst : Inst) × IsInstance problem inst × (is_violated held inst ≡ true) × (weight_of inst ≡ positive_weight problem.clauses ground)
unmade problem real held ground of untrue =
    let e : clause_true (atoms_of held) ground.terms of.clause.literals ≡ false =
    sym (ap (λ found. option_map_or (λ (clause : Clause). clause_true (atoms_of held) ground.terms clause.literals) found false) of.is) ∙ untrue in
    let missed = missed_from held ground.terms of.clause.literals e in
    let there : Among problem.forms (plain_form (0 + ground.clause) of.clause) =
    subst (λ forms. Among forms (plain_form (0 + ground.clause) of.clause)) (sym real.formed) (plain_among 0 problem.clauses ground.clause of.clause of.is missed.plain) in
    let (number, is) = among_numbered problem.forms (plain_form (0 + ground.clause) of.clause) there in
    let inst = form_instance number ground.terms (plain_form (0 + ground.clause) of.clause) in (
      inst,
      record {
        form = plain_form (0 + ground.clause) of.clause;
        is = is;
        terms = and_true (nat_eq (length ground.terms) (length of.clause.variables)) (list_all (fits problem.symbols) ground.terms) (eq-eqb (length ground.terms) (length of.clause.variables) of.variables) of.terms;
        made = refl;
      },
      violated_from held inst missed.premises missed.conclusions,
      sym (ap (λ found. option_map_or (λ (clause : Clause). heaviest (lit_instances ground.terms (conclusions_of clause.literals))) found 0) of.is),
    )

untrue_one : (clauses : List Clause) (atoms : List (List ℕ)) (grounds : List Ground) → list_all (makes_true clauses atoms) grounds ≡ false → (ground : Ground) × Among grounds ground × (makes_true clauses atoms ground ≡ false)
untrue_one clauses atoms [] e = absurd (true≢false e)
untrue_one clauses atoms (first ∷ grounds) e = by (makes_true clauses atoms first) refl e (untrue_one clauses atoms grounds)
  where
    by : (made : Bool) → makes_true clauses atoms first ≡ made → (made && list_all (makes_true clauses atoms) grounds) ≡ false
        → (list_all (makes_true clauses atoms) grounds ≡ false → (ground : Ground) × Among grounds ground × (makes_true clauses atoms ground ≡ false)) → (ground : Ground) × Among (first ∷ grounds) ground × (makes_true clauses atoms ground ≡ false)
    by true is e go = let (ground, there, untrue) = go e in (ground, inr there, untrue)
    by false is e go = (first, inl refl, is)

all_at : (P : Ground → Type 0) (grounds : List Ground) (ground : Ground) → All P grounds → Among grounds ground → P ground
all_at P [] ground all there = absurd there
all_at P (first ∷ grounds) ground all (inl same) = subst P same (All-head P first grounds all)
all_at P (first ∷ grounds) ground all (inr later) = all_at P grounds ground (All-tail P first grounds all) later

-- each branch violates a light instance
pub light_violated : (problem : ProblemData) → IsProblem problem → (grounds : List Ground) → Refutes grounds problem → (weight : ℕ) → All (λ ground. positive_weight problem.clauses ground ≤ weight) grounds → (held : List Lit)
    → (inst : Inst) × IsInstance problem inst × (is_violated held inst ≡ true) × (weight_of inst ≤ weight)
light_violated problem real grounds refutes weight light held =
    let (ground, there, untrue) = untrue_one problem.clauses (atoms_of held) grounds (refutes.contradictory (atoms_of held)) in
    let (inst, is, violated, same) = unmade problem real held ground (all_at (IsClauseInstance problem) grounds ground refutes.each there) untrue in
    let own : positive_weight problem.clauses ground ≤ weight = all_at (λ one. positive_weight problem.clauses one ≤ weight) grounds ground light there in
    (inst, is, violated, subst (λ n. n ≤ weight) (sym same) own)

-- of some instances, one before which none of them stands
least_in : (first : Inst) (insts : List Inst) → (least : Inst) × Among (first ∷ insts) least × ((other : Inst) → Among (first ∷ insts) other → inst_cmp other least ≢ Less)
least_in first [] = (
  first,
  inl refl,
  (λ other there less. elim there [
    | inl same ↦
        let tie = tied_itself inst_total first in
        let bad : inst_cmp first first ≡ Less = subst (λ one. inst_cmp one first ≡ Less) (sym same) less in cc
    | inr bad ↦ bad
  ]),
)
least_in first (second ∷ insts) =
    let (least, there, none) = least_in second insts in
    by least there none (inst_cmp first least) refl
  where
    by : (least : Inst) → Among (second ∷ insts) least → ((other : Inst) → Among (second ∷ insts) other → inst_cmp other least ≢ Less) → (answer : Ordering) → inst_cmp first least ≡ answer
        → (one : Inst) × Among (first ∷ second ∷ insts) one × ((other : Inst) → Among (first ∷ second ∷ insts) other → inst_cmp other one ≢ Less)
    by least there none Less is = (
      first,
      inl refl,
      (λ other among less. elim among [
        | inl same ↦
            let tie = tied_itself inst_total first in
            let bad : inst_cmp first first ≡ Less = subst (λ one. inst_cmp one first ≡ Less) (sym same) less in cc
        | inr later ↦ none other later (inst_total.trans other first least less is)
      ]),
    )
    by least there none Equal is = (
      least,
      inr there,
      (λ other among less. elim among [
        | inl same ↦ let bad : inst_cmp first least ≡ Less = subst (λ one. inst_cmp one least ≡ Less) (sym same) less in cc
        | inr later ↦ none other later less
      ]),
    )
    by least there none Greater is = (
      least,
      inr there,
      (λ other among less. elim among [
        | inl same ↦ let bad : inst_cmp first least ≡ Less = subst (λ one. inst_cmp one least ≡ Less) (sym same) less in cc
        | inr later ↦ none other later less
      ]),
    )

not_lighter : (a b : Inst) → inst_cmp a b ≢ Less → weight_of b ≤ weight_of a
not_lighter a b not_less = elim (cases_lt (weight_of a) (weight_of b)) [
  | inl less ↦ absurd (not_less (ap (λ answer. ordering_then answer (ordering_then (nat_cmp a.form b.form) (subst_cmp a.subst b.subst))) (below (weight_of a) (weight_of b) less)))
  | inr heavy ↦ heavy
]
  where
    below : (x y : ℕ) → x < y → nat_cmp x y ≡ Less
    below x y less = rw (lt-ltb x y less) refl

-- where an instance is violated, there is a least violated one, and it is no heavier
pub least_exists : (problem : ProblemData) → IsProblem problem → (held : List Lit) (inst : Inst) → IsInstance problem inst → is_violated held inst ≡ true → (least : Inst) × IsLeast problem held least × (weight_of least ≤ weight_of inst)
least_exists problem real held inst is violated = by (violated_in problem held) (violated_exact problem real held)
  where
    by : (insts : List Inst) → ((one : Inst) → Contains insts one ↔ (IsInstance problem one × IsTrue (is_violated held one))) → (least : Inst) × IsLeast problem held least × (weight_of least ≤ weight_of inst)
    by [] exact = absurd (among_from [] inst ((exact inst).1 (is, violated)))
    by (first ∷ insts) exact =
        let (least, there, none) = least_in first insts in
        let own = (exact least).0 (contains_from (first ∷ insts) least there) in (
          least,
          record { instance = own.0; violated = own.1; first = λ other real_one violated_one. none other (among_from (first ∷ insts) other ((exact other).1 (real_one, violated_one))) },
          not_lighter inst least (none inst (among_from (first ∷ insts) inst ((exact inst).1 (is, violated)))),
        )

-- ---- the words of an instance's conclusions

terms_below : (table : List Symbol) (wanted : ℕ) (word : List ℕ) → are_terms table wanted word ≡ true → all_below (length table) word ≡ true
terms_below table wanted [] fine = refl
terms_below table zero (symbol ∷ word) fine = absurd (true≢false (sym fine))
terms_below table (suc wanted) (symbol ∷ word) fine = by (slice_get table symbol) refl fine (λ more. terms_below table more word)
  where
    by : (entry : Option Symbol) → slice_get table symbol ≡ entry → option_map_or (λ (found : Symbol). are_terms table (found.arity + wanted) word) entry false ≡ true
        → ((more : ℕ) → are_terms table more word ≡ true → all_below (length table) word ≡ true) → all_below (length table) (symbol ∷ word) ≡ true
    by None is fine go = absurd (true≢false (sym fine))
    by (Some entry) is fine go = and_true (nat_lt symbol (length table)) (all_below (length table) word) (lt-ltb symbol (length table) (slice_get_within table symbol entry is)) (go (entry.arity + wanted) fine)

term_below : (table : List Symbol) (terms : List (List ℕ)) (k : ℕ) → list_all (fits table) terms ≡ true → all_below (length table) (slice_index_or terms k []) ≡ true
term_below table [] zero each = refl
term_below table [] (suc k) each = refl
term_below table (term ∷ terms) zero each = terms_below table 1 term (both_true (fits table term) (list_all (fits table) terms) each).0
term_below table (term ∷ terms) (suc k) each = term_below table terms k (both_true (fits table term) (list_all (fits table) terms) each).1

instance_below : (table : List Symbol) (variables wanted : ℕ) (terms : List (List ℕ)) (items : List Item) → are_patterns table variables wanted items ≡ true → list_all (fits table) terms ≡ true → all_below (length table) (instance_of terms items) ≡ true
instance_below table variables wanted terms [] fine each = refl
instance_below table variables zero terms (item ∷ items) fine each = absurd (true≢false (sym fine))
instance_below table variables (suc wanted) terms (Sym symbol ∷ items) fine each = by (slice_get table symbol) refl fine (λ more. instance_below table variables more terms items)
  where
    by : (entry : Option Symbol) → slice_get table symbol ≡ entry → option_map_or (λ (found : Symbol). are_patterns table variables (found.arity + wanted) items) entry false ≡ true
        → ((more : ℕ) → are_patterns table variables more items ≡ true → list_all (fits table) terms ≡ true → all_below (length table) (instance_of terms items) ≡ true) → all_below (length table) (instance_of terms (Sym symbol ∷ items)) ≡ true
    by None is fine go = absurd (true≢false (sym fine))
    by (Some entry) is fine go = and_true (nat_lt symbol (length table)) (all_below (length table) (instance_of terms items)) (lt-ltb symbol (length table) (slice_get_within table symbol entry is)) (go (entry.arity + wanted) fine each)
instance_below table variables (suc wanted) terms (Var variable ∷ items) fine each =
    let parts = both_true (nat_lt variable variables) (are_patterns table variables wanted items) fine in
    list_all-append (λ symbol. nat_lt symbol (length table)) (slice_index_or terms variable []) (instance_of terms items)
    ∙ and_true (all_below (length table) (slice_index_or terms variable [])) (all_below (length table) (instance_of terms items)) (term_below table terms variable each) (instance_below table variables wanted terms items parts.1 each)

term_some : (table : List Symbol) (terms : List (List ℕ)) (k : ℕ) → k < length terms → list_all (fits table) terms ≡ true → 0 < length (slice_index_or terms k [])
term_some table [] k within each = absurd (omega arith)
term_some table ([] ∷ terms) zero within each = absurd (true≢false (sym each))
term_some table ((symbol ∷ term) ∷ terms) zero within each = omega arith
term_some table (term ∷ terms) (suc k) within each = term_some table terms k (omega arith) (both_true (fits table term) (list_all (fits table) terms) each).1

instance_some : (table : List Symbol) (variables : ℕ) (terms : List (List ℕ)) (items : List Item) → length terms ≡ variables → pattern_fits table variables items ≡ true → list_all (fits table) terms ≡ true → 0 < length (instance_of terms items)
instance_some table variables terms [] count fine each = absurd (true≢false (sym fine))
instance_some table variables terms (Sym symbol ∷ items) count fine each = omega arith
instance_some table variables terms (Var variable ∷ items) count fine each =
    let small : variable < variables = ltb-true variable variables (both_true (nat_lt variable variables) (are_patterns table variables 0 items) fine).0 in
    let some = term_some table terms variable (omega (arith, count, small)) each in
    let sum = length-append (slice_index_or terms variable []) (instance_of terms items) in
    omega (arith, some, sum)

-- a literal's word has some symbols, all below the number of the table's
pub record IsWordOver (symbols : ℕ) (lit : Lit) : Type 0 where
  pub below : all_below symbols lit.word ≡ true
  pub some : 0 < length lit.word

conclusions_over : (table : List Symbol) (variables : ℕ) (terms : List (List ℕ)) (lits : List PatLit) → length terms ≡ variables → list_all (fits table) terms ≡ true → list_all (λ (lit : PatLit). pattern_fits table variables lit.pattern) lits ≡ true
    → (lit : Lit) → Among (lit_instances terms lits) lit → IsWordOver (length table) lit
conclusions_over table variables terms [] count each all lit there = absurd there
conclusions_over table variables terms (first ∷ lits) count each all lit (inl same) =
    let own = (both_true (pattern_fits table variables first.pattern) (list_all (λ (one : PatLit). pattern_fits table variables one.pattern) lits) all).0 in
    subst (IsWordOver (length table)) same (record { below = instance_below table variables 1 terms first.pattern own each; some = instance_some table variables terms first.pattern count own each })
conclusions_over table variables terms (first ∷ lits) count each all lit (inr later) =
    conclusions_over table variables terms lits count each (both_true (pattern_fits table variables first.pattern) (list_all (λ (one : PatLit). pattern_fits table variables one.pattern) lits) all).1 lit later

pub conclusion_over : (problem : ProblemData) → IsProblem problem → (inst : Inst) → IsInstance problem inst → (lit : Lit) → Among inst.conclusions lit → IsWordOver (length problem.symbols) lit
conclusion_over problem real inst is lit there =
    let at = form_of_clause problem.clauses problem.forms real.formed inst.form is.form is.is in
    let clause : IsClause problem.symbols (length problem.files) at.clause = All-at (IsClause problem.symbols (length problem.files)) problem.clauses is.form.clause at.clause real.input.each at.there in
    let parts = both_true (nat_eq (length inst.subst) is.form.variables) (list_all (fits problem.symbols) inst.subst) is.terms in
    let count : length inst.subst ≡ length at.clause.variables = eqb-true (length inst.subst) is.form.variables parts.0 ∙ at.variables in
    conclusions_over problem.symbols (length at.clause.variables) inst.subst is.form.conclusions count parts.1 (at.fitting problem.symbols (length at.clause.variables) clause.fitting) lit
    (subst (λ (one : Inst). Among one.conclusions lit) is.made there)

pub below_heaviest : (lits : List Lit) (lit : Lit) → Among lits lit → length lit.word ≤ heaviest lits
below_heaviest [] lit there = absurd there
below_heaviest (first ∷ lits) lit (inl same) = let own : length first.word ≡ length lit.word = ap (λ (one : Lit). length one.word) same in omega arith
below_heaviest (first ∷ lits) lit (inr later) = let rest = below_heaviest lits lit later in omega arith
