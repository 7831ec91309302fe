-- The problem that is formed: its facts, and that it is the input's.
use Rattle.std.proofs.Common.{◌≡◌, ◌≢◌, ◌≤◌, ℕ, true, List, length, sym, ◌∙◌, ap, subst, arith, All, ◌&&◌, nat_le}
use Rattle.std.proofs.lemmas.List.{length-map}
use Rattle.std.proofs.lemmas.List.Elements.{All-map, All-weaker}
use Rattle.std.specs.List.{list_all}
use Rattle.mg_word.specs.Table.{Symbol}
use Rattle.mg_word.specs.Forms.{forms_of, is_restricted}
use Rattle.mg_word.specs.Facts.{InputData, ProblemData, IsClause, IsInput, IsNarrow, IsProblem, is_light_form, most_forms}
use Rattle.mg_word.specs.SymbolOrder.{IsSortedTable}
use Rattle.mg_word.specs.declared.clause.Clause.{Clause}
use Rattle.mg_word.specs.declared.form.Form.{Form}
use Rattle.mg_word.proofs.Narrow.{forms_narrow}
use Rattle.mg_word.proofs.Sorting.{permuted_different}
use Rattle.clause_form.specs.Building.{HasFewParts}
use Rattle.clause_form.specs.Faults.{is_light_clause, is_faultless, Stands}
use Rattle.clause_form.specs.Forming.{IsFormed}
use Rattle.clause_form.specs.Renumbering.{clause_renumbered, renumbered}
use Rattle.clause_form.specs.declared.fault.FormFault.{FormFault}
use Rattle.clause_form.specs.declared.fault.FormFault.TheVariants.{NoMemory}
use Rattle.mg_word.proofs.Members.{both_true}
use Rattle.clause_form.proofs.Excluding.{fault_excluded, few_of}
use Rattle.clause_form.proofs.FormFacts.{light_forms}
use Rattle.clause_form.proofs.InputFacts.{clause_kept, symbols_kept}
use Rattle.clause_form.proofs.Renumbered.{faultless_mapped, stands_unmapped}

-- the facts of an input hold of its clauses over the sorted symbols
pub input_kept : (before after : List Symbol) (n : List ℕ) (files : List (List ℕ)) (clauses : List Clause) → IsSortedTable before after n → IsInput before files clauses → IsInput after files (renumbered n clauses)
input_kept before after n files clauses sorted facts = record {
  named = symbols_kept before after sorted.permuted facts.named;
  different = permuted_different before after sorted.permuted facts.different;
  each = All-map (IsClause after (length files)) (clause_renumbered n) clauses
      (All-weaker (IsClause before (length files)) (λ clause. IsClause after (length files) (clause_renumbered n clause)) (λ clause. clause_kept before after n (length files) clause sorted.renumbered) clauses facts.each);
  few = let e = length-map clauses (clause_renumbered n) in omega (arith, facts.few);
}

pub few_parts : (table : List Symbol) (files : List (List ℕ)) (clauses : List Clause) → IsInput table files clauses → All HasFewParts clauses
few_parts table files clauses facts =
    All-weaker (IsClause table (length files)) HasFewParts (λ clause fact. record { literals = fact.literals; variables = fact.variables }) clauses facts.each

-- copies of the clauses over the new numbers
pub copied_from : (slice n : List ℕ) (source clauses copies : List Clause) → slice ≡ n → source ≡ clauses → copies ≡ renumbered slice source → copies ≡ renumbered n clauses
copied_from slice n source clauses copies numbers_are are copies_are = copies_are ∙ ap (λ m. renumbered m source) numbers_are ∙ ap (λ (cs : List Clause). renumbered n cs) are

-- what is made of the parts of an input, whose clauses have no fault
pub record IsMade (before : List Symbol) (files : List (List ℕ)) (clauses : List Clause) (after : List Symbol) (n : List ℕ) (files' : List (List ℕ)) (clauses' : List Clause) (forms' : List Form) : Type 0 where
  pub sorted : IsSortedTable before after n
  pub files_are : files' ≡ files
  pub clauses_are : clauses' ≡ renumbered n clauses
  pub forms_are : forms' ≡ forms_of clauses'
  pub faultless : is_faultless clauses' ≡ true

pub made_problem : (before : List Symbol) (files : List (List ℕ)) (clauses : List Clause) (after : List Symbol) (n : List ℕ) (files' : List (List ℕ)) (clauses' : List Clause) (forms' : List Form) → IsInput before files clauses → IsMade before files clauses after n files' clauses' forms'
    → IsProblem (record { symbols = after; files = files'; clauses = clauses'; forms = forms' })
made_problem before files clauses after n files' clauses' forms' facts made =
    let parts = both_true (list_all is_light_clause clauses') (nat_le (length (forms_of clauses')) most_forms && list_all is_restricted (forms_of clauses')) made.faultless in
    let inner = both_true (nat_le (length (forms_of clauses')) most_forms) (list_all is_restricted (forms_of clauses')) parts.1 in
    let kept = input_kept before after n files clauses made.sorted facts in
    let kept_files : IsInput after files' (renumbered n clauses) = subst (λ (names : List (List ℕ)). IsInput after names (renumbered n clauses)) (sym made.files_are) kept in
    record {
      input = subst (λ (cs : List Clause). IsInput after files' cs) (sym made.clauses_are) kept_files;
      formed = made.forms_are;
      restricted = ap (list_all is_restricted) made.forms_are ∙ inner.1;
      narrow =
          subst (All IsNarrow) (sym made.forms_are)
          (forms_narrow after (length files') clauses' (subst (λ (cs : List Clause). IsInput after files' cs) (sym made.clauses_are) kept_files).each);
      ordered = made.sorted.ordered;
      light = ap (list_all is_light_form) made.forms_are ∙ light_forms clauses' parts.0;
      few_forms = subst (λ (forms : List Form). length forms ≤ most_forms) (sym made.forms_are) (few_of (length (forms_of clauses')) inner.0);
    }

pub made_formed : (before : List Symbol) (files : List (List ℕ)) (clauses : List Clause) (after : List Symbol) (n : List ℕ) (files' : List (List ℕ)) (clauses' : List Clause) (forms' : List Form) → IsMade before files clauses after n files' clauses' forms'
    → IsFormed (record { symbols = before; files = files; clauses = clauses }) (record { symbols = after; files = files'; clauses = clauses'; forms = forms' })
made_formed before files clauses after n files' clauses' forms' made = record {
  faultless = sym (faultless_mapped n clauses) ∙ ap is_faultless (sym made.clauses_are) ∙ made.faultless;
  numbers = n;
  symbols = made.sorted;
  files = made.files_are;
  clauses = made.clauses_are;
  forms = made.forms_are;
}

-- a fault of the copied clauses is one of the input
pub copied_stands : (n : List ℕ) (clauses clauses' : List Clause) (fault : FormFault) → clauses' ≡ renumbered n clauses → Stands clauses' fault → Stands clauses fault
copied_stands n clauses clauses' fault are r = stands_unmapped n clauses fault (subst (λ (cs : List Clause). Stands cs fault) are r)

pub none_formed : (input : InputData) (fault : FormFault) → Stands input.clauses fault → fault ≢ NoMemory → (problem : ProblemData) → IsFormed input problem → ⊥
none_formed input fault stands known problem formed = fault_excluded input.clauses fault known stands formed.faultless
