-- The rules of a set are kept by just the choices of its proper parts that satisfy the problem.
use Rattle.std.proofs.Common.{◌≡◌, ℕ, zero, suc, ◌+◌, Bool, true, false, true≢false, not, cond, ◌&&◌, List, [], ◌∷◌, ◌++◌, length, replicate, Option, Some, slice_get, refl, sym, ap, ap₂, subst, ◌∙◌, inl, inr, arith}
use Rattle.std.specs.List.{flat_map}
use Rattle.std.specs.Option.{option_map_or}
use Rattle.mg_word.specs.Table.{Symbol}
use Rattle.mg_word.specs.Words.{fits, complement_of, lit_instances, form_instance}
use Rattle.mg_word.specs.Sets.{holds, is_part, meets, is_rising, set_of}
use Rattle.mg_word.specs.Facts.{ProblemData, IsProblem}
use Rattle.mg_word.specs.declared.lit.Lit.{Lit}
use Rattle.mg_word.specs.declared.form.Form.{Form}
use Rattle.mg_word.specs.declared.form.Inst.{Inst}
use Rattle.mg_word.proofs.Members.{both_true, and_true, not_true, not_false, never_true, never_false, part_holds, part_from, part_of_itself, holds_first, holds_later, holds_cases, clash_free_at, clash_free_from}
use Rattle.mg_word.proofs.RisingLists.{holds-set_of}
use Rattle.mg_meaning.specs.Instances.{are_literals, IsInstance}
use Rattle.mg_meaning.specs.Matches.{terms_of}
use Rattle.mg_meaning.specs.Matching.{matches}
use Rattle.mg_meaning.specs.Parts.{IsSmaller}
use Rattle.mg_meaning.proofs.Lists.{Among, among-append, among_left, among_right, among-flat_map, among_flat_mapped}
use Rattle.mg_meaning.proofs.Matchings.{holds_from_among, among_from_holds}
use Rattle.minimal_test.specs.declared.rule.Rule.{Rule}
use Rattle.minimal_test.specs.declared.side.Side.{Side}
use Rattle.minimal_test.specs.declared.side.Side.TheVariants.{Open}
use Rattle.minimal_test.specs.Choices.{is_broken, keeps, AskTheSame, side_at, side_of, chosen_of}
use Rattle.minimal_test.specs.Paths.{Agrees, IsDead}
use Rattle.minimal_test.specs.Places.{rule_of, clash_rules, stray_rules, instance_rule, form_rules, rules_of, chosen_by, chosen_from}
use Rattle.minimal_test.proofs.PlaceSteps.{rule_broken, chosen_by_goes, taken_inside, taken_goes}
use Rattle.minimal_test.proofs.Matched.{matched_instance, IsMatched, instance_matched}

-- kept rules, one by one
pub keeps_from : (chosen : ℕ → Bool) (rules : List Rule) → ((rule : Rule) → Among rules rule → is_broken chosen rule ≡ false) → keeps chosen rules ≡ true
keeps_from chosen [] each = refl
keeps_from chosen (rule ∷ rules) each =
    and_true (not (is_broken chosen rule)) (keeps chosen rules) (not_false (is_broken chosen rule) (each rule (inl refl))) (keeps_from chosen rules (λ one there. each one (inr there)))

pub kept_each : (chosen : ℕ → Bool) (rules : List Rule) (rule : Rule) → keeps chosen rules ≡ true → Among rules rule → is_broken chosen rule ≡ false
kept_each chosen [] rule kept there = absurd there
kept_each chosen (first ∷ rules) rule kept (inl same) = ap (is_broken chosen) (sym same) ∙ not_true (is_broken chosen first) (both_true (not (is_broken chosen first)) (keeps chosen rules) kept).0
kept_each chosen (first ∷ rules) rule kept (inr later) = kept_each chosen rules rule (both_true (not (is_broken chosen first)) (keeps chosen rules) kept).1 later

-- of the problem's literals, one by one
pub literal_fits : (table : List Symbol) (lits : List Lit) (lit : Lit) → are_literals table lits ≡ true → holds lits lit ≡ true → fits table lit.word ≡ true
literal_fits table [] lit all there = absurd (true≢false (sym there))
literal_fits table (first ∷ lits) lit all there =
    let parts = both_true (fits table first.word) (are_literals table lits) all in
    elim (holds_cases first lits lit there) [
      | inl same ↦ ap (λ (one : Lit). fits table one.word) (sym same) ∙ parts.0
      | inr later ↦ literal_fits table lits lit parts.1 later
    ]

literals_from : (table : List Symbol) (lits : List Lit) → ((lit : Lit) → holds lits lit ≡ true → fits table lit.word ≡ true) → are_literals table lits ≡ true
literals_from table [] each = refl
literals_from table (first ∷ lits) each =
    and_true (fits table first.word) (are_literals table lits) (each first (holds_first first lits)) (literals_from table lits (λ lit there. each lit (holds_later first lits lit there)))

module _ (problem : ProblemData) (real : IsProblem problem) (set part : List Lit) (chosen : ℕ → Bool) (goes : (k : ℕ) (lit : Lit) → slice_get set k ≡ Some lit → chosen k ≡ holds part lit) (inside : (lit : Lit) → holds part lit ≡ true → holds set lit ≡ true) where
  -- a rule without conclusions is broken where the part has its premises
  barred : (premises : List Lit) → is_part premises set ≡ true → is_broken chosen (rule_of set premises []) ≡ is_part premises part
  barred premises is = rule_broken set part chosen goes premises [] is inside ∙ by (is_part premises part)
    where
      by : (b : Bool) → (b && true) ≡ b
      by true = refl
      by false = refl

  pair_part : (whole : List Lit) (a b : Lit) → holds whole a ≡ true → holds whole b ≡ true → is_part (a ∷ b ∷ []) whole ≡ true
  pair_part whole a b one two = and_true (holds whole a) (holds whole b && true) one (and_true (holds whole b) true two refl)

  one_part : (whole : List Lit) (a : Lit) → holds whole a ≡ true → is_part (a ∷ []) whole ≡ true
  one_part whole a one = and_true (holds whole a) true one refl

  -- a proper part that satisfies the problem keeps each rule
  module _ (smaller : IsSmaller problem set part) where
    keeps_clash : (rule : Rule) (lit : Lit) → holds set lit ≡ true → Among (clash_rules set lit) rule → is_broken chosen rule ≡ false
    keeps_clash rule lit there among = by (holds set (complement_of lit)) refl among
      where
        by : (met : Bool) → holds set (complement_of lit) ≡ met → Among (cond met (rule_of set (lit ∷ complement_of lit ∷ []) [] ∷ []) []) rule → is_broken chosen rule ≡ false
        by true is (inl same) =
            ap (is_broken chosen) (sym same) ∙ (barred (lit ∷ complement_of lit ∷ []) (pair_part set lit (complement_of lit) there is)
            ∙ never_true (is_part (lit ∷ complement_of lit ∷ []) part) (λ e.
            let parts = both_true (holds part lit) (holds part (complement_of lit) && true) e in
            let clash = both_true (holds part (complement_of lit)) true parts.1 in
            true≢false (sym clash.0 ∙ clash_free_at part lit smaller.satisfying.consistent parts.0)))
        by true is (inr bad) = absurd bad
        by false is bad = absurd bad

    keeps_stray : (rule : Rule) (lit : Lit) → holds set lit ≡ true → Among (stray_rules problem.symbols set lit) rule → is_broken chosen rule ≡ false
    keeps_stray rule lit there among = by (fits problem.symbols lit.word) refl among
      where
        by : (fine : Bool) → fits problem.symbols lit.word ≡ fine → Among (cond fine [] (rule_of set (lit ∷ []) [] ∷ [])) rule → is_broken chosen rule ≡ false
        by true is bad = absurd bad
        by false is (inl same) =
            ap (is_broken chosen) (sym same) ∙ (barred (lit ∷ []) (one_part set lit there)
            ∙ never_true (is_part (lit ∷ []) part) (λ e.
            let parts = both_true (holds part lit) true e in
            true≢false (sym (literal_fits problem.symbols part lit smaller.satisfying.fitting parts.0) ∙ is)))
        by false is (inr bad) = absurd bad

    keeps_instance : (form : Form) (terms : List (Option (List ℕ))) → Among problem.forms form → Among (matches problem.symbols form (length form.premises) set) terms → is_broken chosen (instance_rule set form terms) ≡ false
    keeps_instance form terms among matched =
        let (number, is, held) = matched_instance problem real set form terms among matched in
        rule_broken set part chosen goes (lit_instances (terms_of terms) form.premises) (lit_instances (terms_of terms) form.conclusions) held inside
        ∙ never_true (is_part (lit_instances (terms_of terms) form.premises) part && not (meets (lit_instances (terms_of terms) form.conclusions) part)) (λ e.
        let parts = both_true (is_part (lit_instances (terms_of terms) form.premises) part) (not (meets (lit_instances (terms_of terms) form.conclusions) part)) e in
        true≢false (sym (smaller.satisfying.obeying (form_instance number (terms_of terms) form) is parts.0) ∙ not_true (meets (lit_instances (terms_of terms) form.conclusions) part) parts.1))

    keeps_form : (rule : Rule) (form : Form) → Among problem.forms form → Among (form_rules problem.symbols set form) rule → is_broken chosen rule ≡ false
    keeps_form rule form among there =
        let (terms, matched, is) = among-flat_map (λ terms. instance_rule set form terms ∷ []) (matches problem.symbols form (length form.premises) set) rule there in
        by terms matched is
      where
        by : (terms : List (Option (List ℕ))) → Among (matches problem.symbols form (length form.premises) set) terms → Among (instance_rule set form terms ∷ []) rule → is_broken chosen rule ≡ false
        by terms matched (inl same) = ap (is_broken chosen) (sym same) ∙ keeps_instance form terms among matched
        by terms matched (inr bad) = absurd bad

    keeps_whole : is_broken chosen (rule_of set set []) ≡ false
    keeps_whole = barred set (part_of_itself set) ∙ not_true (is_part set part) (both_true (is_part part set) (not (is_part set part)) smaller.proper).1

    pub smaller_keeps : keeps chosen (rules_of problem.symbols problem.forms set) ≡ true
    smaller_keeps = keeps_from chosen (rules_of problem.symbols problem.forms set) (λ rule there. elim (among-append (flat_map (clash_rules set) set) (flat_map (stray_rules problem.symbols set) set ++ (flat_map (form_rules problem.symbols set) problem.forms ++ rule_of set set [] ∷ [])) rule there) [
      | inl clash ↦ let (lit, among, is) = among-flat_map (clash_rules set) set rule clash in keeps_clash rule lit (holds_from_among set lit among) is
      | inr later ↦ elim (among-append (flat_map (stray_rules problem.symbols set) set) (flat_map (form_rules problem.symbols set) problem.forms ++ rule_of set set [] ∷ []) rule later) [
        | inl stray ↦ let (lit, among, is) = among-flat_map (stray_rules problem.symbols set) set rule stray in keeps_stray rule lit (holds_from_among set lit among) is
        | inr behind ↦ elim (among-append (flat_map (form_rules problem.symbols set) problem.forms) (rule_of set set [] ∷ []) rule behind) [
          | inl of_form ↦ let (form, among, is) = among-flat_map (form_rules problem.symbols set) problem.forms rule of_form in keeps_form rule form among is
          | inr last ↦ whole rule last
        ]
      ]
    ])
      where
        whole : (rule : Rule) → Among (rule_of set set [] ∷ []) rule → is_broken chosen rule ≡ false
        whole rule (inl same) = ap (is_broken chosen) (sym same) ∙ keeps_whole
        whole rule (inr bad) = absurd bad

  -- and a part that keeps each is such a one
  module _ (kept : keeps chosen (rules_of problem.symbols problem.forms set) ≡ true) where
    kept_clash : (lit : Lit) → holds part lit ≡ true → holds part (complement_of lit) ≡ false
    kept_clash lit there = never_true (holds part (complement_of lit)) (λ clash.
        let here : holds set lit ≡ true = inside lit there in
        let met : holds set (complement_of lit) ≡ true = inside (complement_of lit) clash in
        let among : Among (clash_rules set lit) (rule_of set (lit ∷ complement_of lit ∷ []) []) = rw met (inl refl) in
        let listed = among_left (flat_map (clash_rules set) set) (flat_map (stray_rules problem.symbols set) set ++ (flat_map (form_rules problem.symbols set) problem.forms ++ rule_of set set [] ∷ [])) (rule_of set (lit ∷ complement_of lit ∷ []) [])
        (among_flat_mapped (clash_rules set) set lit (rule_of set (lit ∷ complement_of lit ∷ []) []) (among_from_holds set lit here) among) in
        true≢false (sym (barred (lit ∷ complement_of lit ∷ []) (pair_part set lit (complement_of lit) here met) ∙ pair_part part lit (complement_of lit) there clash) ∙ kept_each chosen (rules_of problem.symbols problem.forms set) (rule_of set (lit ∷ complement_of lit ∷ []) []) kept listed))

    kept_stray : (lit : Lit) → holds part lit ≡ true → fits problem.symbols lit.word ≡ true
    kept_stray lit there = never_false (fits problem.symbols lit.word) (λ stray.
        let here : holds set lit ≡ true = inside lit there in
        let among : Among (stray_rules problem.symbols set lit) (rule_of set (lit ∷ []) []) = rw stray (inl refl) in
        let listed = among_right (flat_map (clash_rules set) set) (flat_map (stray_rules problem.symbols set) set ++ (flat_map (form_rules problem.symbols set) problem.forms ++ rule_of set set [] ∷ [])) (rule_of set (lit ∷ []) [])
        (among_left (flat_map (stray_rules problem.symbols set) set) (flat_map (form_rules problem.symbols set) problem.forms ++ rule_of set set [] ∷ []) (rule_of set (lit ∷ []) [])
        (among_flat_mapped (stray_rules problem.symbols set) set lit (rule_of set (lit ∷ []) []) (among_from_holds set lit here) among)) in
        true≢false (sym (barred (lit ∷ []) (one_part set lit here) ∙ one_part part lit there) ∙ kept_each chosen (rules_of problem.symbols problem.forms set) (rule_of set (lit ∷ []) []) kept listed))

    kept_instance : (inst : Inst) → IsInstance problem inst → is_part inst.premises part ≡ true → meets inst.conclusions part ≡ true
    kept_instance inst is premises =
        let held : is_part inst.premises set ≡ true = part_from inst.premises set (λ lit there. inside lit (part_holds inst.premises part lit premises there)) in
        let from = instance_matched problem real set inst is held in
        by from (subst (λ some. is_part some set ≡ true) (sym from.premises) held) (subst (λ some. is_part some part ≡ true) (sym from.premises) premises)
      where
        by : (from : IsMatched problem set inst) → is_part (lit_instances (terms_of from.terms) from.form.premises) set ≡ true → is_part (lit_instances (terms_of from.terms) from.form.premises) part ≡ true → meets inst.conclusions part ≡ true
        by from held own =
            let premises' = lit_instances (terms_of from.terms) from.form.premises in
            let conclusions' = lit_instances (terms_of from.terms) from.form.conclusions in
            let listed = among_right (flat_map (clash_rules set) set) (flat_map (stray_rules problem.symbols set) set ++ (flat_map (form_rules problem.symbols set) problem.forms ++ rule_of set set [] ∷ [])) (instance_rule set from.form from.terms)
            (among_right (flat_map (stray_rules problem.symbols set) set) (flat_map (form_rules problem.symbols set) problem.forms ++ rule_of set set [] ∷ []) (instance_rule set from.form from.terms)
            (among_left (flat_map (form_rules problem.symbols set) problem.forms) (rule_of set set [] ∷ []) (instance_rule set from.form from.terms)
            (among_flat_mapped (form_rules problem.symbols set) problem.forms from.form (instance_rule set from.form from.terms) from.among
            (among_flat_mapped (λ terms. instance_rule set from.form terms ∷ []) (matches problem.symbols from.form (length from.form.premises) set) from.terms (instance_rule set from.form from.terms) from.matched (inl refl))))) in
            let fine = kept_each chosen (rules_of problem.symbols problem.forms set) (instance_rule set from.form from.terms) kept listed in
            let met : meets conclusions' part ≡ true = never_false (meets conclusions' part) (λ none.
            true≢false (sym (rule_broken set part chosen goes premises' conclusions' held inside ∙ and_true (is_part premises' part) (not (meets conclusions' part)) own (not_false (meets conclusions' part) none)) ∙ fine)) in
            subst (λ some. meets some part ≡ true) from.conclusions met

    kept_whole : is_part set part ≡ false
    kept_whole =
        let listed = among_right (flat_map (clash_rules set) set) (flat_map (stray_rules problem.symbols set) set ++ (flat_map (form_rules problem.symbols set) problem.forms ++ rule_of set set [] ∷ [])) (rule_of set set [])
        (among_right (flat_map (stray_rules problem.symbols set) set) (flat_map (form_rules problem.symbols set) problem.forms ++ rule_of set set [] ∷ []) (rule_of set set [])
        (among_right (flat_map (form_rules problem.symbols set) problem.forms) (rule_of set set [] ∷ []) (rule_of set set []) (inl refl))) in
        sym (barred set (part_of_itself set)) ∙ kept_each chosen (rules_of problem.symbols problem.forms set) (rule_of set set []) kept listed

    pub kept_smaller : IsSmaller problem set part
    kept_smaller = record {
      proper = and_true (is_part part set) (not (is_part set part)) (part_from part set inside) (not_false (is_part set part) kept_whole);
      satisfying = record {
        consistent = clash_free_from part kept_clash;
        fitting = literals_from problem.symbols part kept_stray;
        obeying = kept_instance;
      };
    }

-- where no choice of the places keeps the rules, no part is smaller
pub none_smaller : (problem : ProblemData) → IsProblem problem → (set : List Lit) → IsDead (rules_of problem.symbols problem.forms set) (replicate (length set) Open) → (part : List Lit) → IsSmaller problem set part → ⊥
none_smaller problem real set dead part smaller =
    let inside : (lit : Lit) → holds part lit ≡ true → holds set lit ≡ true = λ lit there. part_holds part set lit (both_true (is_part part set) (not (is_part set part)) smaller.proper).0 there in
    dead (chosen_by set part) (smaller_keeps problem real set part (chosen_by set part) (chosen_by_goes set part) inside smaller) agrees
  where
    not_open : (is_in : Bool) → Open ≡ side_of is_in → ⊥
    not_open true e = cc
    not_open false e = cc

    agrees_from : (lits : List Lit) (k : ℕ) (is_in : Bool) → side_at (replicate (length lits) Open) k ≡ side_of is_in → option_map_or (holds part) (slice_get lits k) false ≡ is_in
    agrees_from [] k true e = absurd (let bad : ⊥ = cc in bad)
    agrees_from [] k false e = refl
    agrees_from (lit ∷ lits) zero is_in e = absurd (not_open is_in e)
    agrees_from (lit ∷ lits) (suc k) is_in e = agrees_from lits k is_in e

    agrees : Agrees (replicate (length set) Open) (chosen_by set part)
    agrees = λ k is_in e. agrees_from set k is_in e

-- where a choice does, what it puts in is smaller
pub taken_smaller : (problem : ProblemData) → IsProblem problem → (set : List Lit) (chosen : ℕ → Bool) → is_rising set ≡ true → keeps chosen (rules_of problem.symbols problem.forms set) ≡ true → IsSmaller problem set (set_of (chosen_from chosen 0 set))
taken_smaller problem real set chosen rising kept =
    kept_smaller problem real set (set_of (chosen_from chosen 0 set)) chosen goes (λ lit there. taken_inside chosen 0 set lit (sym (holds-set_of (chosen_from chosen 0 set) lit) ∙ there)) kept
  where
    goes : (k : ℕ) (lit : Lit) → slice_get set k ≡ Some lit → chosen k ≡ holds (set_of (chosen_from chosen 0 set)) lit
    goes k lit at =
        let same : 0 + k ≡ k = omega arith in
        ap chosen (sym same) ∙ (taken_goes chosen 0 set k lit rising at ∙ sym (holds-set_of (chosen_from chosen 0 set) lit))

-- the same of rules that ask the same, and of literals that are those of the set
pub none_listed : (problem : ProblemData) → IsProblem problem → (set lits : List Lit) (rules : List Rule) → AskTheSame rules (rules_of problem.symbols problem.forms set) → lits ≡ set → IsDead rules (replicate (length lits) Open) → (part : List Lit) → IsSmaller problem set part → ⊥
none_listed problem real set lits rules asks same dead =
    none_smaller problem real set (λ chosen kept agrees. subst (λ (one : List Lit). IsDead rules (replicate (length one) Open)) same dead chosen (asks chosen ∙ kept) agrees)

pub taken_listed : (problem : ProblemData) → IsProblem problem → (set lits : List Lit) (rules : List Rule) (sides slice : List Side) (part smaller : List Lit) → AskTheSame rules (rules_of problem.symbols problem.forms set) → lits ≡ set → is_rising set ≡ true
    → keeps (chosen_of sides) rules ≡ true → slice ≡ sides → part ≡ chosen_from (chosen_of slice) 0 lits → smaller ≡ set_of part → IsSmaller problem set smaller
taken_listed problem real set lits rules sides slice part smaller asks same rising kept read taken made =
    let own : IsSmaller problem set (set_of (chosen_from (chosen_of sides) 0 set)) = taken_smaller problem real set (chosen_of sides) rising (sym (asks (chosen_of sides)) ∙ kept) in
    let equal : smaller ≡ set_of (chosen_from (chosen_of sides) 0 set) = made ∙ ap set_of (taken ∙ ap₂ (λ (s : List Side) (l : List Lit). chosen_from (chosen_of s) 0 l) read same) in
    subst (IsSmaller problem set) (sym equal) own
