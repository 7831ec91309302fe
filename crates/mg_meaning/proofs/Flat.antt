-- Without functions, conclusions of instances whose premises are flat are flat, and so weigh at most 1 and the greatest arity.
use Rattle.std.proofs.Common.{◌≡◌, ℕ, zero, suc, ◌+◌, ◌<◌, ◌≤◌, Bool, true, false, true≢false, nat_eq, nat_lt, List, [], ◌∷◌, map, length, All, Option, Some, None, slice_get, slice_index_or, refl, sym, ap, subst, ◌∙◌, inl, inr, if◌then◌else◌, arith, length-append}
use Rattle.std.specs.List.{list_all}
use Rattle.std.specs.Option.{option_map_or}
use Rattle.std.proofs.lemmas.Bool.{eqb-true, eq-eqb, ltb-true}
use Rattle.std.proofs.lemmas.List.Folds.{list_all-append}
use Rattle.std.proofs.lemmas.List.Elements.{All-head, All-tail}
use Rattle.mg_word.specs.Table.{Symbol}
use Rattle.mg_word.specs.Words.{are_terms, fits, are_patterns, pattern_fits, instance_of, lit_instance, lit_instances}
use Rattle.mg_word.specs.Sets.{holds, is_part}
use Rattle.mg_word.specs.Forms.{opposite, premises_of, conclusions_of, is_among, chosen_from, others_from, is_always_true, plain_form, further_form, clause_forms, forms_from, pattern_variables, lits_variables, is_restricted}
use Rattle.mg_word.specs.Facts.{has_atom, begins_with_symbol, IsClause, ProblemData, IsProblem}
use Rattle.mg_word.specs.declared.item.Item.{Item}
use Rattle.mg_word.specs.declared.item.Item.TheVariants.{Sym, Var}
use Rattle.mg_word.specs.declared.lit.Lit.{Lit}
use Rattle.mg_word.specs.declared.lit.PatLit.{PatLit}
use Rattle.mg_word.specs.declared.clause.ClauseLit.{ClauseLit}
use Rattle.mg_word.specs.declared.clause.ClauseLit.TheVariants.{True, False, Lit as Literal}
use Rattle.mg_word.specs.declared.clause.Clause.{Clause}
use Rattle.mg_word.specs.declared.form.Form.{Form}
use Rattle.mg_word.specs.declared.form.Inst.{Inst}
use Rattle.mg_word.proofs.Members.{both_true, and_true, either_true}
use Rattle.mg_meaning.specs.Instances.{IsInstance}
use Rattle.mg_meaning.specs.Violation.{is_violated}
use Rattle.mg_meaning.specs.Bound.{is_constant, is_flat_item, arguments_of, is_flat, HasNoFunctions, greatest_arity}
use Rattle.mg_meaning.proofs.Lists.{Among, among-append, among-map, All-at}
use Rattle.mg_meaning.proofs.Matchings.{among_from_holds}
use Rattle.mg_meaning.proofs.Excluded.{violated_parts}
use Rattle.mg_meaning.proofs.FormVariables.{numbered_among, among_cases, among_front, among_back, passing_at, passing_form}
use Rattle.mg_meaning.proofs.FormTruth.{form_of_clause}

module _ (table : List Symbol) where
  -- all symbols are constants
  abbrev pub are_constants : List ℕ → Bool
  are_constants word = list_all (is_constant table) word

  -- what stands behind the first symbol
  abbrev pub tail_of : List ℕ → List ℕ
  tail_of [] = []
  tail_of (symbol ∷ word) = word

  -- an atom whose arguments are variables and constants
  abbrev pub is_flat_atom : List Item → Bool
  is_flat_atom [] = false
  is_flat_atom (Sym symbol ∷ items) = list_all (is_flat_item table) items
  is_flat_atom (Var variable ∷ items) = false

  abbrev pub AllFlat : List PatLit → Type 0
  AllFlat lits = list_all (λ (lit : PatLit). is_flat_atom lit.pattern) lits ≡ true

  abbrev is_flat_literal : ClauseLit → Bool
  is_flat_literal True = true
  is_flat_literal False = true
  is_flat_literal (Literal lit) = is_flat_atom lit.pattern

  literal_flat : (literal : ClauseLit) → has_atom literal ≡ true → is_flat table literal ≡ true → is_flat_literal literal ≡ true
  literal_flat True atom flat = refl
  literal_flat False atom flat = refl
  literal_flat (Literal lit) atom flat = by lit.pattern atom flat
    where
      by : (pattern : List Item) → begins_with_symbol pattern ≡ true → list_all (is_flat_item table) (arguments_of pattern) ≡ true → is_flat_atom pattern ≡ true
      by [] atom flat = absurd (true≢false (sym atom))
      by (Sym symbol ∷ items) atom flat = flat
      by (Var variable ∷ items) atom flat = absurd (true≢false (sym atom))

  literals_flat : (literals : List ClauseLit) → list_all has_atom literals ≡ true → list_all (is_flat table) literals ≡ true → list_all is_flat_literal literals ≡ true
  literals_flat [] atoms flat = refl
  literals_flat (literal ∷ literals) atoms flat =
      let one = both_true (has_atom literal) (list_all has_atom literals) atoms in
      let two = both_true (is_flat table literal) (list_all (is_flat table) literals) flat in
      and_true (is_flat_literal literal) (list_all is_flat_literal literals) (literal_flat literal one.0 two.0) (literals_flat literals one.1 two.1)

  -- ---- both sides of a form are flat where its clause is

  abbrev AreSides : List PatLit → List PatLit → Type 0
  AreSides premises conclusions = AllFlat premises × AllFlat conclusions

  side_more : (lit : PatLit) (chosen : Bool) (premises conclusions : List PatLit) → is_flat_atom lit.pattern ≡ true → AreSides premises conclusions
      → AreSides (if chosen then premises else opposite lit ∷ premises) (if chosen then lit ∷ conclusions else conclusions)
  side_more lit true premises conclusions own sides = (sides.0, and_true (is_flat_atom lit.pattern) (list_all (λ (one : PatLit). is_flat_atom one.pattern) conclusions) own sides.1)
  side_more lit false premises conclusions own sides = (and_true (is_flat_atom lit.pattern) (list_all (λ (one : PatLit). is_flat_atom one.pattern) premises) own sides.0, sides.1)

  plain_sides : (literals : List ClauseLit) → list_all is_flat_literal literals ≡ true → AreSides (premises_of literals) (conclusions_of literals)
  plain_sides [] flat = (refl, refl)
  plain_sides (True ∷ literals) flat = plain_sides literals flat
  plain_sides (False ∷ literals) flat = plain_sides literals flat
  plain_sides (Literal lit ∷ literals) flat =
      let parts = both_true (is_flat_atom lit.pattern) (list_all is_flat_literal literals) flat in
      by lit.negative parts.0 (plain_sides literals parts.1)
    where
      by : (negative : Bool) → is_flat_atom lit.pattern ≡ true → AreSides (premises_of literals) (conclusions_of literals)
          → AreSides (if negative then opposite lit ∷ premises_of literals else premises_of literals) (if negative then conclusions_of literals else lit ∷ conclusions_of literals)
      by true own sides = side_more lit false (premises_of literals) (conclusions_of literals) own sides
      by false own sides = side_more lit true (premises_of literals) (conclusions_of literals) own sides

  further_sides : (at : ℕ) (chosen : List ℕ) (literals : List ClauseLit) → list_all is_flat_literal literals ≡ true → AreSides (others_from at chosen literals) (chosen_from at chosen literals)
  further_sides at chosen [] flat = (refl, refl)
  further_sides at chosen (True ∷ literals) flat = further_sides (at + 1) chosen literals flat
  further_sides at chosen (False ∷ literals) flat = further_sides (at + 1) chosen literals flat
  further_sides at chosen (Literal lit ∷ literals) flat =
      let parts = both_true (is_flat_atom lit.pattern) (list_all is_flat_literal literals) flat in
      side_more lit (is_among chosen at) (others_from (at + 1) chosen literals) (chosen_from (at + 1) chosen literals) parts.0 (further_sides (at + 1) chosen literals parts.1)

  abbrev HasFlatSides : Form → Type 0
  HasFlatSides form = AreSides form.premises form.conclusions

  clause_sides : (index : ℕ) (clause : Clause) (form : Form) → list_all is_flat_literal clause.literals ≡ true → Among (clause_forms index clause) form → HasFlatSides form
  clause_sides index clause form flat there = by (is_always_true clause.literals) there
    where
      by : (always : Bool) → Among (if always then [] else plain_form index clause ∷ map (further_form index clause) clause.conclude) form → HasFlatSides form
      by true there = absurd there
      by false (inl same) = subst HasFlatSides same (plain_sides clause.literals flat)
      by false (inr later) =
          let (chosen, item, same) = among-map (further_form index clause) clause.conclude form later in
          subst HasFlatSides same (further_sides 1 chosen clause.literals flat)

  forms_sides : (index files : ℕ) (clauses : List Clause) (form : Form) → All (IsClause table files) clauses → All (λ (clause : Clause). list_all (is_flat table) clause.literals ≡ true) clauses → Among (forms_from index clauses) form → HasFlatSides form
  forms_sides index files [] form each flat there = absurd there
  forms_sides index files (clause ∷ clauses) form each flat there = elim (among-append (clause_forms index clause) (forms_from (index + 1) clauses) form there) [
    | inl own ↦
        let real : IsClause table files clause = All-head (IsClause table files) clause clauses each in
        clause_sides index clause form (literals_flat clause.literals real.atoms (All-head (λ (one : Clause). list_all (is_flat table) one.literals ≡ true) clause clauses flat)) own
    | inr later ↦ forms_sides (index + 1) files clauses form (All-tail (IsClause table files) clause clauses each) (All-tail (λ (one : Clause). list_all (is_flat table) one.literals ≡ true) clause clauses flat) later
  ]

  -- ---- terms of constants

  nothing_left : (word : List ℕ) → are_terms table 0 word ≡ true → length word ≡ 0
  nothing_left [] fine = refl
  nothing_left (symbol ∷ word) fine = absurd (true≢false (sym fine))

  -- a term whose symbols are constants is one constant
  one_constant : (term : List ℕ) → fits table term ≡ true → are_constants term ≡ true → length term ≡ 1
  one_constant [] fine each = absurd (true≢false (sym fine))
  one_constant (symbol ∷ word) fine each = by (slice_get table symbol) fine (both_true (is_constant table symbol) (are_constants word) each).0
    where
      by : (entry : Option Symbol) → option_map_or (λ (found : Symbol). are_terms table (found.arity + 0) word) entry false ≡ true → option_map_or (λ (found : Symbol). nat_eq found.arity 0) entry false ≡ true → suc (length word) ≡ 1
      by None fine own = absurd (true≢false (sym own))
      by (Some entry) fine own =
          let arity : entry.arity ≡ 0 = eqb-true entry.arity 0 own in
          let wanted : entry.arity + 0 ≡ 0 = omega (arith, arity) in
          ap suc (nothing_left word (subst (λ n. are_terms table n word ≡ true) wanted fine))

  term_fits : (terms : List (List ℕ)) (k : ℕ) → k < length terms → list_all (fits table) terms ≡ true → fits table (slice_index_or terms k []) ≡ true
  term_fits [] k within each = absurd (omega arith)
  term_fits (term ∷ terms) zero within each = (both_true (fits table term) (list_all (fits table) terms) each).0
  term_fits (term ∷ terms) (suc k) within each = term_fits terms k (omega arith) (both_true (fits table term) (list_all (fits table) terms) each).1

  -- ---- from premises to variables

  -- under these terms these variables stand for constants
  abbrev pub StandForConstants : List (List ℕ) → List ℕ → Type 0
  StandForConstants terms variables = (variable : ℕ) → is_among variables variable ≡ true → are_constants (slice_index_or terms variable []) ≡ true

  arguments_constant : (terms : List (List ℕ)) (items : List Item) → are_constants (instance_of terms items) ≡ true → StandForConstants terms (pattern_variables items)
  arguments_constant terms [] each variable there = absurd (true≢false (sym there))
  arguments_constant terms (Sym symbol ∷ items) each variable there = arguments_constant terms items (both_true (is_constant table symbol) (are_constants (instance_of terms items)) each).1 variable there
  arguments_constant terms (Var own ∷ items) each variable there =
      let parts = both_true (are_constants (slice_index_or terms own [])) (are_constants (instance_of terms items)) (sym (list_all-append (is_constant table) (slice_index_or terms own []) (instance_of terms items)) ∙ each) in
      elim (either_true (nat_eq own variable) (is_among (pattern_variables items) variable) there) [
        | inl same ↦ subst (λ n. are_constants (slice_index_or terms n []) ≡ true) (eqb-true own variable same) parts.0
        | inr later ↦ arguments_constant terms items parts.1 variable later
      ]

  atom_constant : (terms : List (List ℕ)) (pattern : List Item) → is_flat_atom pattern ≡ true → are_constants (tail_of (instance_of terms pattern)) ≡ true → StandForConstants terms (pattern_variables pattern)
  atom_constant terms [] flat each = absurd (true≢false (sym flat))
  atom_constant terms (Sym symbol ∷ items) flat each = arguments_constant terms items each
  atom_constant terms (Var variable ∷ items) flat each = absurd (true≢false (sym flat))

  -- behind the first symbol of each literal stand constants
  abbrev pub AreFlat : List Lit → Type 0
  AreFlat lits = (lit : Lit) → Among lits lit → are_constants (tail_of lit.word) ≡ true

  premises_constant : (terms : List (List ℕ)) (premises : List PatLit) (held : List Lit) → AllFlat premises → is_part (lit_instances terms premises) held ≡ true → AreFlat held → StandForConstants terms (lits_variables premises)
  premises_constant terms [] held flat part each variable there = absurd (true≢false (sym there))
  premises_constant terms (premise ∷ premises) held flat part each variable there =
      let sides = both_true (is_flat_atom premise.pattern) (list_all (λ (one : PatLit). is_flat_atom one.pattern) premises) flat in
      let parts = both_true (holds held (lit_instance terms premise)) (is_part (lit_instances terms premises) held) part in
      elim (among_cases (pattern_variables premise.pattern) (lits_variables premises) variable there) [
        | inl own ↦ atom_constant terms premise.pattern sides.0 (each (lit_instance terms premise) (among_from_holds held (lit_instance terms premise) parts.0)) variable own
        | inr later ↦ premises_constant terms premises held sides.1 parts.1 each variable later
      ]

  -- ---- from variables to conclusions

  arguments_flat : (terms : List (List ℕ)) (items : List Item) → list_all (is_flat_item table) items ≡ true → StandForConstants terms (pattern_variables items) → are_constants (instance_of terms items) ≡ true
  arguments_flat terms [] flat stand = refl
  arguments_flat terms (Sym symbol ∷ items) flat stand =
      let parts = both_true (is_constant table symbol) (list_all (is_flat_item table) items) flat in
      and_true (is_constant table symbol) (are_constants (instance_of terms items)) parts.0 (arguments_flat terms items parts.1 stand)
  arguments_flat terms (Var own ∷ items) flat stand =
      list_all-append (is_constant table) (slice_index_or terms own []) (instance_of terms items)
      ∙ and_true (are_constants (slice_index_or terms own [])) (are_constants (instance_of terms items)) (stand own (among_front (own ∷ []) (pattern_variables items) own (or_here own)))
      (arguments_flat terms items flat (λ variable there. stand variable (among_back (own ∷ []) (pattern_variables items) variable there)))
    where
      or_here : (n : ℕ) → is_among (n ∷ []) n ≡ true
      or_here n = rw (eq-eqb n n refl) refl

  -- so many arguments have so many symbols
  arguments_length : (terms : List (List ℕ)) (variables wanted : ℕ) (items : List Item) → length terms ≡ variables → list_all (fits table) terms ≡ true → list_all (is_flat_item table) items ≡ true → are_patterns table variables wanted items ≡ true
      → StandForConstants terms (pattern_variables items) → length (instance_of terms items) ≡ wanted
  arguments_length terms variables zero [] count fine flat fit stand = refl
  arguments_length terms variables zero (item ∷ items) count fine flat fit stand = absurd (true≢false (sym fit))
  arguments_length terms variables (suc wanted) [] count fine flat fit stand = absurd (true≢false (sym fit))
  arguments_length terms variables (suc wanted) (Sym symbol ∷ items) count fine flat fit stand =
      let parts = both_true (is_constant table symbol) (list_all (is_flat_item table) items) flat in
      by (slice_get table symbol) fit parts.0 (λ fit_rest. arguments_length terms variables wanted items count fine parts.1 fit_rest stand)
    where
      by : (entry : Option Symbol) → option_map_or (λ (found : Symbol). are_patterns table variables (found.arity + wanted) items) entry false ≡ true → option_map_or (λ (found : Symbol). nat_eq found.arity 0) entry false ≡ true
          → (are_patterns table variables wanted items ≡ true → length (instance_of terms items) ≡ wanted) → suc (length (instance_of terms items)) ≡ suc wanted
      by None fit own go = absurd (true≢false (sym own))
      by (Some entry) fit own go =
          let arity : entry.arity ≡ 0 = eqb-true entry.arity 0 own in
          let same : entry.arity + wanted ≡ wanted = omega (arith, arity) in
          ap suc (go (subst (λ n. are_patterns table variables n items ≡ true) same fit))
  arguments_length terms variables (suc wanted) (Var own ∷ items) count fine flat fit stand =
      let parts = both_true (nat_lt own variables) (are_patterns table variables wanted items) fit in
      let small : own < variables = ltb-true own variables parts.0 in
      let one = one_constant (slice_index_or terms own []) (term_fits terms own (omega (arith, small, count)) fine) (stand own (among_front (own ∷ []) (pattern_variables items) own (rw (eq-eqb own own refl) refl))) in
      let rest = arguments_length terms variables wanted items count fine flat parts.1 (λ variable there. stand variable (among_back (own ∷ []) (pattern_variables items) variable there)) in
      let sum = length-append (slice_index_or terms own []) (instance_of terms items) in
      omega (arith, one, rest, sum)

  arity_most : (all : List Symbol) (symbol : ℕ) (entry : Symbol) → slice_get all symbol ≡ Some entry → entry.arity ≤ greatest_arity all
  arity_most [] symbol entry e = absurd (let bad : ⊥ = cc in bad)
  arity_most (first ∷ all) zero entry e = let same : first ≡ entry = cc in let own : first.arity ≡ entry.arity = ap (λ (one : Symbol). one.arity) same in omega arith
  arity_most (first ∷ all) (suc symbol) entry e = let rest = arity_most all symbol entry e in omega arith

  -- what an instance's conclusion is
  pub record IsFlatWord (word : List ℕ) : Type 0 where
    pub flat : are_constants (tail_of word) ≡ true
    pub short : length word ≤ 1 + greatest_arity table

  atom_flat : (terms : List (List ℕ)) (variables : ℕ) (pattern : List Item) → length terms ≡ variables → list_all (fits table) terms ≡ true → is_flat_atom pattern ≡ true → pattern_fits table variables pattern ≡ true
      → StandForConstants terms (pattern_variables pattern) → IsFlatWord (instance_of terms pattern)
  atom_flat terms variables [] count fine flat fit stand = absurd (true≢false (sym flat))
  atom_flat terms variables (Var variable ∷ items) count fine flat fit stand = absurd (true≢false (sym flat))
  atom_flat terms variables (Sym symbol ∷ items) count fine flat fit stand = record { flat = arguments_flat terms items flat stand; short = by (slice_get table symbol) refl fit }
    where
      by : (entry : Option Symbol) → slice_get table symbol ≡ entry → option_map_or (λ (found : Symbol). are_patterns table variables (found.arity + 0) items) entry false ≡ true → suc (length (instance_of terms items)) ≤ 1 + greatest_arity table
      by None is fit = absurd (true≢false (sym fit))
      by (Some entry) is fit =
          let own = arguments_length terms variables (entry.arity + 0) items count fine flat fit stand in
          let most = arity_most table symbol entry is in
          omega (arith, own, most)

  conclusions_flat : (terms : List (List ℕ)) (variables : ℕ) (conclusions : List PatLit) → length terms ≡ variables → list_all (fits table) terms ≡ true → AllFlat conclusions → list_all (λ (lit : PatLit). pattern_fits table variables lit.pattern) conclusions ≡ true
      → StandForConstants terms (lits_variables conclusions) → (lit : Lit) → Among (lit_instances terms conclusions) lit → IsFlatWord lit.word
  conclusions_flat terms variables [] count fine flat fit stand lit there = absurd there
  conclusions_flat terms variables (first ∷ conclusions) count fine flat fit stand lit there =
      let sides = both_true (is_flat_atom first.pattern) (list_all (λ (one : PatLit). is_flat_atom one.pattern) conclusions) flat in
      let fits_all = both_true (pattern_fits table variables first.pattern) (list_all (λ (one : PatLit). pattern_fits table variables one.pattern) conclusions) fit in
      elim there [
        | inl same ↦ subst (λ (one : Lit). IsFlatWord one.word) same (atom_flat terms variables first.pattern count fine sides.0 fits_all.0 (λ variable here. stand variable (among_front (pattern_variables first.pattern) (lits_variables conclusions) variable here)))
        | inr later ↦ conclusions_flat terms variables conclusions count fine sides.1 fits_all.1 (λ variable here. stand variable (among_back (pattern_variables first.pattern) (lits_variables conclusions) variable here)) lit later
      ]

-- the conclusions of an instance that a flat branch violates
pub instance_flat : (problem : ProblemData) → IsProblem problem → HasNoFunctions problem → (held : List Lit) (inst : Inst) → IsInstance problem inst → is_violated held inst ≡ true → AreFlat problem.symbols held
    → (lit : Lit) → Among inst.conclusions lit → IsFlatWord problem.symbols lit.word
instance_flat problem real none held inst is violated each lit there =
    let table = problem.symbols in
    let form = is.form in
    let among : Among problem.forms form = numbered_among problem.forms inst.form form is.is in
    let sides = forms_sides table 0 (length problem.files) problem.clauses form real.input.each none (subst (λ all. Among all form) real.formed among) in
    let at = form_of_clause problem.clauses problem.forms real.formed inst.form form is.is in
    let clause : IsClause problem.symbols (length problem.files) at.clause = All-at (IsClause problem.symbols (length problem.files)) problem.clauses form.clause at.clause real.input.each at.there in
    let sizes = both_true (nat_eq (length inst.subst) form.variables) (list_all (fits problem.symbols) inst.subst) is.terms in
    let count : length inst.subst ≡ length at.clause.variables = eqb-true (length inst.subst) form.variables sizes.0 ∙ at.variables in
    let premises : is_part (lit_instances inst.subst form.premises) held ≡ true = subst (λ (one : Inst). is_part one.premises held ≡ true) is.made (violated_parts held inst violated).0 in
    let stand = premises_constant problem.symbols inst.subst form.premises held sides.0 premises each in
    conclusions_flat problem.symbols inst.subst (length at.clause.variables) form.conclusions count sizes.1 sides.1 (at.fitting problem.symbols (length at.clause.variables) clause.fitting)
    (λ variable here. stand variable (passing_at (is_among (lits_variables form.premises)) (lits_variables form.conclusions) variable (passing_form is_restricted problem.forms form real.restricted among) here)) lit
    (subst (λ (one : Inst). Among one.conclusions lit) is.made there)
