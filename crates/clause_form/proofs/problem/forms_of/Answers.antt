use Rattle.std.proofs.Common.{◌≡◌, ◌≢◌, All, AllPairs, List, sym, subst, ◌∙◌, ap}
use Rattle.mg_word.specs.Facts.{InputData}
use Rattle.mg_word.specs.Forms.{forms_of}
use Rattle.mg_word.specs.declared.clause.Clause.{Clause}
use Rattle.clause_form.specs.Building.{HasFewParts}
use Rattle.clause_form.specs.Faults.{Stands, is_faultless}
use Rattle.clause_form.specs.Forming.{IsFormed}
use Rattle.clause_form.specs.Renumbering.{renumbered}
use Rattle.clause_form.proofs.Formed.{input_kept, few_parts, copied_from, IsMade, made_problem, made_formed, copied_stands, none_formed}
use Rattle.clause_form.proofs.OneProblem.{one_problem}
use Rattle.clause_form.proofs.problem.forms_of.Goals as goal

pub all_forms-requires-clause-sizes : goal.all_forms-requires-clause-sizes
all_forms-requires-clause-sizes c =
    let clauses_are : c.in_ok-clauses.clauses ≡ renumbered c.in_ok-symbols.numbers.items c.input.inside.clauses =
    copied_from c.as_slice.result.now c.in_ok-symbols.numbers.items c.as_slice-2.result.now c.input.inside.clauses c.in_ok-clauses.clauses c.as_slice.ensures.value c.as_slice-2.ensures c.in_ok-clauses.ensures in
    subst (λ (cs : List Clause). All HasFewParts cs) (sym (c.as_slice-3.ensures ∙ clauses_are))
    (few_parts c.in_ok-symbols.symbols c.input.inside.files (renumbered c.in_ok-symbols.numbers.items c.input.inside.clauses)
    (input_kept c.input.inside.symbols c.in_ok-symbols.symbols c.in_ok-symbols.numbers.items c.input.inside.files c.input.inside.clauses c.in_ok-symbols.ensures c.input.invariant))

pub returns-in-Err-clause-answer : goal.returns-in-Err-clause-answer
returns-in-Err-clause-answer c =
    let clauses_are : c.in_ok-clauses.clauses ≡ renumbered c.in_ok-symbols.numbers.items c.input.inside.clauses =
    copied_from c.as_slice.result.now c.in_ok-symbols.numbers.items c.as_slice-2.result.now c.input.inside.clauses c.in_ok-clauses.clauses c.as_slice.ensures.value c.as_slice-2.ensures c.in_ok-clauses.ensures in
    let at_copy : Stands c.in_ok-clauses.clauses c.in-Err.fault = subst (λ (cs : List Clause). Stands cs c.in-Err.fault) c.as_slice-3.ensures c.in-Err.ensures in
    subst (λ (input : InputData). Stands input.clauses c.in-Err.fault) c.input.view_is (copied_stands c.in_ok-symbols.numbers.items c.input.inside.clauses c.in_ok-clauses.clauses c.in-Err.fault clauses_are at_copy)

pub returns-in-Err-clause-exact : goal.returns-in-Err-clause-exact
returns-in-Err-clause-exact c = none_formed c.args.input.now c.in-Err.fault (returns-in-Err-clause-answer c)

pub invariant_of-result : goal.invariant_of-result
invariant_of-result c =
    let clauses_are : c.in_ok-clauses.clauses ≡ renumbered c.in_ok-symbols.numbers.items c.input.inside.clauses =
    copied_from c.as_slice.result.now c.in_ok-symbols.numbers.items c.as_slice-2.result.now c.input.inside.clauses c.in_ok-clauses.clauses c.as_slice.ensures.value c.as_slice-2.ensures c.in_ok-clauses.ensures in
    let made : IsMade c.input.inside.symbols c.input.inside.files c.input.inside.clauses c.in_ok-symbols.symbols c.in_ok-symbols.numbers.items c.in_ok-files.files c.in_ok-clauses.clauses c.new.result = record {
      sorted = c.in_ok-symbols.ensures;
      files_are = c.in_ok-files.ensures ∙ c.as_slice-4.ensures;
      clauses_are = clauses_are;
      forms_are = c.new.ensures ∙ c.in-Ok.ensures.0 ∙ ap (λ (cs : List Clause). forms_of cs) c.as_slice-3.ensures;
      faultless = ap (λ (cs : List Clause). is_faultless cs) (sym c.as_slice-3.ensures) ∙ c.in-Ok.ensures.1;
    } in
    made_problem c.input.inside.symbols c.input.inside.files c.input.inside.clauses c.in_ok-symbols.symbols c.in_ok-symbols.numbers.items c.in_ok-files.files c.in_ok-clauses.clauses c.new.result c.input.invariant made

pub returns-clause-answer : goal.returns-clause-answer
returns-clause-answer c =
    let clauses_are : c.in_ok-clauses.clauses ≡ renumbered c.in_ok-symbols.numbers.items c.input.inside.clauses =
    copied_from c.as_slice.result.now c.in_ok-symbols.numbers.items c.as_slice-2.result.now c.input.inside.clauses c.in_ok-clauses.clauses c.as_slice.ensures.value c.as_slice-2.ensures c.in_ok-clauses.ensures in
    let made : IsMade c.input.inside.symbols c.input.inside.files c.input.inside.clauses c.in_ok-symbols.symbols c.in_ok-symbols.numbers.items c.in_ok-files.files c.in_ok-clauses.clauses c.new.result = record {
      sorted = c.in_ok-symbols.ensures;
      files_are = c.in_ok-files.ensures ∙ c.as_slice-4.ensures;
      clauses_are = clauses_are;
      forms_are = c.new.ensures ∙ c.in-Ok.ensures.0 ∙ ap (λ (cs : List Clause). forms_of cs) c.as_slice-3.ensures;
      faultless = ap (λ (cs : List Clause). is_faultless cs) (sym c.as_slice-3.ensures) ∙ c.in-Ok.ensures.1;
    } in
    subst (λ (input : InputData). IsFormed input (record { symbols = c.in_ok-symbols.symbols; files = c.in_ok-files.files; clauses = c.in_ok-clauses.clauses; forms = c.new.result })) c.input.view_is (made_formed c.input.inside.symbols c.input.inside.files c.input.inside.clauses c.in_ok-symbols.symbols c.in_ok-symbols.numbers.items c.in_ok-files.files c.in_ok-clauses.clauses c.new.result made)

pub returns-clause-only : goal.returns-clause-only
returns-clause-only c =
    let different : AllPairs (λ a b. a ≢ b) c.args.input.now.symbols = subst (λ (input : InputData). AllPairs (λ a b. a ≢ b) input.symbols) c.input.view_is c.len-2.ensures.different in
    λ other formed. one_problem c.args.input.now different other _ formed (returns-clause-answer c)
