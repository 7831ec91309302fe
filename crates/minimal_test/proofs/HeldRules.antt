-- The rules by full matches that stacks hold ask the same as those of the problem.
use Rattle.std.proofs.Common.{◌≡◌, ℕ, zero, suc, ◌-◌, ◌<◌, true, cond, nat_eq, List, [], ◌∷◌, ◌++◌, map, length, take, get_or, Option, Some, Result, Ok, Err, IfOk, All, refl, sym, ap, ap₂, subst, ◌∙◌, inl, inr, arith}
use Rattle.std.specs.List.{filter, flat_map}
use Rattle.std.specs.List.Sorted.{IsPermutation}
use Rattle.std.specs.Option.{option_map, option_to_list}
use Rattle.std.proofs.lemmas.Bool.{eqb-true, eq-eqb}
use Rattle.std.proofs.lemmas.List.Sorted.{Contains-permutation, IsPermutation-sym}
use Rattle.std.proofs.lemmas.Option.{get_or_from_slice_get, slice_get-get_or, slice_get_within}
use Rattle.mg_word.specs.Table.{Symbol}
use Rattle.mg_word.specs.Words.{fits, lit_instances, numbered}
use Rattle.mg_word.specs.Facts.{ProblemData, IsProblem}
use Rattle.mg_word.specs.declared.lit.Lit.{Lit}
use Rattle.mg_word.specs.declared.form.Form.{Form}
use Rattle.mg_word.specs.declared.memory.NoMemory.{NoMemory}
use Rattle.mg_word.proofs.Members.{same_tests}
use Rattle.mg_meaning.specs.Matches.{terms_of}
use Rattle.mg_meaning.specs.Matching.{matches}
use Rattle.mg_meaning.proofs.Lists.{Among, among_from, contains_from, among-append, among_left, among_right, among-map, among_mapped, among-flat_map, among_flat_mapped}
use Rattle.mg_meaning.proofs.Listings.{take_all, among-filter, among_filtered}
use Rattle.mg_meaning.proofs.Matchings.{holds_from_among}
use Rattle.mg_meaning.proofs.FormVariables.{numbered_among}
use Rattle.term_store.specs.Terms.{Term, word_at}
use Rattle.term_store.specs.Values.{AllOver}
use Rattle.term_store.proofs.TableTerms.{over_within}
use Rattle.ramified_match.specs.Stacks.{StacksData, substitution, substitutions, IsFull, AreMatches}
use Rattle.ramified_match.specs.declared.full.Full.{Full}
use Rattle.minimal_test.specs.declared.rule.Rule.{Rule}
use Rattle.minimal_test.specs.declared.verdict.Verdict.{Verdict}
use Rattle.minimal_test.specs.Choices.{keeps, AskTheSame}
use Rattle.minimal_test.specs.Places.{rule_of, clash_rules, stray_rules, instance_rule, form_rules, rules_of}
use Rattle.minimal_test.specs.FullRules.{full_rule, held_rules}
use Rattle.minimal_test.specs.Verdicts.{IsRight}
use Rattle.minimal_test.proofs.Matched.{number_of}
use Rattle.minimal_test.proofs.PartRules.{keeps_from, kept_each, literal_fits}

-- a verdict that is right wherever the rules ask the same is right here
pub right_of : (problem : ProblemData) (set : List Lit) (rules : List Rule) (result : Result Verdict NoMemory) → IsProblem problem → AskTheSame rules (rules_of problem.symbols problem.forms set)
    → IfOk result (λ verdict. (other : ProblemData) → IsProblem other → AskTheSame rules (rules_of other.symbols other.forms set) → IsRight other set verdict) → IfOk result (IsRight problem set)
right_of problem set rules (Ok verdict) real asks right = right problem real asks
right_of problem set rules (Err e) real asks right = right

-- the values of a match are terms that there are
pub values_within : (table : List Symbol) (terms : List Term) (numbers : List ℕ) → AllOver table terms numbers → All (λ number. number < length terms) numbers
values_within table terms numbers over = λ k d within. over_within table terms (get_or numbers k d) (over k (get_or numbers k d) (slice_get-get_or numbers k d within))

-- the words of a substitution
terms-substitution : (terms : List Term) (numbers : List ℕ) → terms_of (map (λ number. Some (word_at terms number)) numbers) ≡ map (word_at terms) numbers
terms-substitution terms [] = refl
terms-substitution terms (number ∷ numbers) = ap (λ rest. word_at terms number ∷ rest) (terms-substitution terms numbers)

-- the form with a number
numbered_form : (forms : List Form) (number : ℕ) (form own : Form) → numbered forms number ≡ Some own → form ≡ get_or forms (number - 1) form → own ≡ form
numbered_form forms zero form own is at = absurd (let bad : ⊥ = cc in bad)
numbered_form forms (suc k) form own is at =
    let same : suc k - 1 ≡ k = omega arith in
    sym (get_or_from_slice_get forms k own form is) ∙ (ap (λ place. get_or forms place form) (sym same) ∙ sym at)

pub numbered_within : (forms : List Form) (number : ℕ) (form : Form) → numbered forms number ≡ Some form → (0 < number) × (number - 1 < length forms)
numbered_within forms zero form is = absurd (let bad : ⊥ = cc in bad)
numbered_within forms (suc k) form is = let less = slice_get_within forms k form is in (omega arith, omega arith)

pub full_ruled : (stacks : StacksData) (set : List Lit) (full : Full) (forms : List Form) (form : Form) (words : List (List ℕ)) (result : Result Rule NoMemory) → IsFull stacks full → forms ≡ stacks.problem.forms → form ≡ get_or forms (full.form - 1) form
    → words ≡ map (word_at stacks.terms) full.values.items → IfOk result (λ rule. rule ≡ rule_of set (lit_instances words form.premises) (lit_instances words form.conclusions)) → IfOk result (λ rule. full_rule stacks set full ≡ rule ∷ [])
full_ruled stacks set full forms form words (Err e) is read at made ruled = ruled
full_ruled stacks set full forms form words (Ok rule) is read at made ruled =
    let own : is.form ≡ form = numbered_form stacks.problem.forms full.form form is.form is.is (at ∙ ap (λ list. get_or list (full.form - 1) form) read) in
    let terms : terms_of (substitution stacks.terms full) ≡ words = terms-substitution stacks.terms full.values.items ∙ sym made in
    ap (λ one. option_to_list (option_map (λ form. instance_rule set form (substitution stacks.terms full)) one)) is.is
    ∙ ap (λ (one : Rule). one ∷ []) (ap₂ (λ (some : List (List ℕ)) (one : Form). rule_of set (lit_instances some one.premises) (lit_instances some one.conclusions)) terms own ∙ sym ruled)

module _ (stacks : StacksData) (are : AreMatches stacks) where
  all_matches : (number : ℕ) (form : Form) → numbered stacks.problem.forms number ≡ Some form → IsPermutation (substitutions stacks.terms number stacks.full) (matches stacks.problem.symbols form (length form.premises) stacks.lits)
  all_matches number form is =
      subst (λ list. IsPermutation (substitutions stacks.terms number stacks.full) (matches stacks.problem.symbols form (length form.premises) list)) (take_all stacks.lits)
      (subst (λ list. IsPermutation (substitutions stacks.terms number list) (matches stacks.problem.symbols form (length form.premises) (take (length stacks.lits) stacks.lits))) (take_all stacks.full)
      (are.exact (length stacks.lits) (length stacks.full) number form are.last is))

  member_full : (full : Full) → Among stacks.full full → IsFull stacks full
  member_full full among =
      let (k, within, is) = contains_from stacks.full full among in
      are.each k full (slice_get-get_or stacks.full k full within ∙ ap Some is)

  -- the rule of a full match is one of its form's
  full_asked : (rule : Rule) (full : Full) → Among stacks.full full → Among (full_rule stacks stacks.lits full) rule → Among (flat_map (form_rules stacks.problem.symbols stacks.lits) stacks.problem.forms) rule
  full_asked rule full among there =
      let is : IsFull stacks full = member_full full among in
      let own : Among (instance_rule stacks.lits is.form (substitution stacks.terms full) ∷ []) rule =
      subst (λ one. Among (option_to_list (option_map (λ form. instance_rule stacks.lits form (substitution stacks.terms full)) one)) rule) is.is there in
      let chosen : Among (substitutions stacks.terms full.form stacks.full) (substitution stacks.terms full) =
      among_mapped (substitution stacks.terms) (filter (λ (one : Full). nat_eq one.form full.form) stacks.full) full
      (among_filtered (λ (one : Full). nat_eq one.form full.form) stacks.full full among (eq-eqb full.form full.form refl)) in
      let found : List (List (Option (List ℕ))) = matches stacks.problem.symbols is.form (length is.form.premises) stacks.lits in
      let matched : Among found (substitution stacks.terms full) =
      among_from found (substitution stacks.terms full) (Contains-permutation (substitutions stacks.terms full.form stacks.full) found (substitution stacks.terms full) (all_matches full.form is.form is.is)
      (contains_from (substitutions stacks.terms full.form stacks.full) (substitution stacks.terms full) chosen)) in
      among_flat_mapped (form_rules stacks.problem.symbols stacks.lits) stacks.problem.forms is.form rule (numbered_among stacks.problem.forms full.form is.form is.is)
      (among_flat_mapped (λ terms. instance_rule stacks.lits is.form terms ∷ []) found (substitution stacks.terms full) rule matched own)

  -- and each of a form's rules is that of a full match
  form_asked : (rule : Rule) (form : Form) → Among stacks.problem.forms form → Among (form_rules stacks.problem.symbols stacks.lits form) rule → Among (flat_map (full_rule stacks stacks.lits) stacks.full) rule
  form_asked rule form among there =
      let found : List (List (Option (List ℕ))) = matches stacks.problem.symbols form (length form.premises) stacks.lits in
      let (terms, matched, is) = among-flat_map (λ terms. instance_rule stacks.lits form terms ∷ []) found rule there in
      let (k, at) = number_of stacks.problem.forms form among in
      let all : List (List (Option (List ℕ))) = substitutions stacks.terms (suc k) stacks.full in
      let chosen : Among all terms =
      among_from all terms (Contains-permutation found all terms (IsPermutation-sym all found (all_matches (suc k) form at)) (contains_from found terms matched)) in
      let (full, listed, same) = among-map (substitution stacks.terms) (filter (λ (one : Full). nat_eq one.form (suc k)) stacks.full) terms chosen in
      let parts = among-filter (λ (one : Full). nat_eq one.form (suc k)) stacks.full full listed in
      let own : numbered stacks.problem.forms full.form ≡ Some form = ap (numbered stacks.problem.forms) (eqb-true full.form (suc k) parts.1) ∙ at in
      among_flat_mapped (full_rule stacks stacks.lits) stacks.full full rule parts.0
      (subst (λ one. Among (option_to_list (option_map (λ form. instance_rule stacks.lits form (substitution stacks.terms full)) one)) rule) (sym own)
      (subst (λ some. Among (instance_rule stacks.lits form some ∷ []) rule) (sym same) is))

  clashes : List Rule
  clashes = flat_map (clash_rules stacks.lits) stacks.lits

  -- none of the literals is a stray
  no_stray : (rule : Rule) (lit : Lit) → Among stacks.lits lit → Among (stray_rules stacks.problem.symbols stacks.lits lit) rule → ⊥
  no_stray rule lit among there =
      let fine : fits stacks.problem.symbols lit.word ≡ true = literal_fits stacks.problem.symbols stacks.lits lit are.fitting (holds_from_among stacks.lits lit among) in
      subst (λ fit. Among (cond fit [] (rule_of stacks.lits (lit ∷ []) [] ∷ [])) rule) fine there

  held_asked : (rule : Rule) → Among (held_rules stacks stacks.lits) rule → Among (rules_of stacks.problem.symbols stacks.problem.forms stacks.lits) rule
  held_asked rule there =
      let clashing : List Rule = flat_map (clash_rules stacks.lits) stacks.lits in
      let straying : List Rule = flat_map (stray_rules stacks.problem.symbols stacks.lits) stacks.lits in
      let forming : List Rule = flat_map (form_rules stacks.problem.symbols stacks.lits) stacks.problem.forms in
      let full : List Rule = flat_map (full_rule stacks stacks.lits) stacks.full in
      let whole : List Rule = rule_of stacks.lits stacks.lits [] ∷ [] in
      elim (among-append clashing (full ++ whole) rule there) [
        | inl clash ↦ among_left clashing (straying ++ (forming ++ whole)) rule clash
        | inr later ↦ among_right clashing (straying ++ (forming ++ whole)) rule (among_right straying (forming ++ whole) rule (elim (among-append full whole rule later) [
          | inl of_full ↦ let (one, among, is) = among-flat_map (full_rule stacks stacks.lits) stacks.full rule of_full in among_left forming whole rule (full_asked rule one among is)
          | inr last ↦ among_right forming whole rule last
        ]))
      ]

  asked_held : (rule : Rule) → Among (rules_of stacks.problem.symbols stacks.problem.forms stacks.lits) rule → Among (held_rules stacks stacks.lits) rule
  asked_held rule there =
      let clashing : List Rule = flat_map (clash_rules stacks.lits) stacks.lits in
      let straying : List Rule = flat_map (stray_rules stacks.problem.symbols stacks.lits) stacks.lits in
      let forming : List Rule = flat_map (form_rules stacks.problem.symbols stacks.lits) stacks.problem.forms in
      let full : List Rule = flat_map (full_rule stacks stacks.lits) stacks.full in
      let whole : List Rule = rule_of stacks.lits stacks.lits [] ∷ [] in
      elim (among-append clashing (straying ++ (forming ++ whole)) rule there) [
        | inl clash ↦ among_left clashing (full ++ whole) rule clash
        | inr later ↦ among_right clashing (full ++ whole) rule (elim (among-append straying (forming ++ whole) rule later) [
          | inl stray ↦ let (lit, among, is) = among-flat_map (stray_rules stacks.problem.symbols stacks.lits) stacks.lits rule stray in absurd (no_stray rule lit among is)
          | inr behind ↦ elim (among-append forming whole rule behind) [
            | inl of_form ↦ let (form, among, is) = among-flat_map (form_rules stacks.problem.symbols stacks.lits) stacks.problem.forms rule of_form in among_left full whole rule (form_asked rule form among is)
            | inr last ↦ among_right full whole rule last
          ]
        ])
      ]

  held_same : AskTheSame (held_rules stacks stacks.lits) (rules_of stacks.problem.symbols stacks.problem.forms stacks.lits)
  held_same = λ chosen.
      let held : List Rule = held_rules stacks stacks.lits in
      let asked : List Rule = rules_of stacks.problem.symbols stacks.problem.forms stacks.lits in
      same_tests (keeps chosen held) (keeps chosen asked)
      (λ kept. keeps_from chosen asked (λ rule there. kept_each chosen held rule kept (asked_held rule there)))
      (λ kept. keeps_from chosen held (λ rule there. kept_each chosen asked rule kept (held_asked rule there)))

-- the rules that were listed ask the same as those of the set
pub held_listed : (stacks : StacksData) (set : List Lit) (full : List Full) (rules : List Rule) → AreMatches stacks → stacks.lits ≡ set → full ≡ stacks.full
    → rules ≡ flat_map (clash_rules set) set ++ (flat_map (full_rule stacks set) full ++ rule_of set set [] ∷ []) → AskTheSame rules (rules_of stacks.problem.symbols stacks.problem.forms set)
held_listed stacks set full rules are held read listed = λ chosen.
    ap (keeps chosen) (listed ∙ (ap (λ some. flat_map (clash_rules set) set ++ (flat_map (full_rule stacks set) some ++ rule_of set set [] ∷ [])) read ∙ ap (held_rules stacks) (sym held)))
    ∙ (held_same stacks are chosen ∙ ap (λ (one : List Lit). keeps chosen (rules_of stacks.problem.symbols stacks.problem.forms one)) held)
