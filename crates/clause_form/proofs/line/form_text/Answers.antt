use Rattle.std.proofs.Common.{◌≡◌, ◌-◌, ◌++◌, length, List, Some, All, map, subst, sym, ap, ◌∙◌, arith, codes, get_or}
use Rattle.mg_word.specs.Facts.{ProblemData}
use Rattle.mg_word.specs.Spelling.{spelled_name, spelled_pattern_lit}
use Rattle.mg_word.specs.declared.clause.Clause.{Clause}
use Rattle.mg_word.specs.declared.form.Form.{Form}
use Rattle.mg_word.specs.declared.lit.PatLit.{PatLit}
use Rattle.clause_form.specs.Lines.{IsSpelled, line_head, premises_part, conclusions_part, form_line, line_of}
use Rattle.clause_form.proofs.FormFacts.{numbered_right, all_spelled, four_added, line_at}
use Rattle.clause_form.proofs.line.form_text.Goals as goal

pub bounds-as_slice-arrow : goal.bounds-as_slice-arrow
bounds-as_slice-arrow c =
    let right = numbered_right c.args.problem.now c.problem.inside.symbols c.problem.inside.files c.problem.inside.clauses c.problem.inside.forms c.as_slice.result.now c.args.form c.index-as_slice-form.result
    c.problem.view_is c.problem.invariant.input.each c.problem.invariant.formed c.as_slice.ensures c.requires.above c.requires.within c.index-as_slice-form.is in
    let clauses : length c.as_slice-2.result.now ≡ length c.problem.inside.clauses = ap (λ (cs : List Clause). length cs) c.as_slice-2.ensures in
    omega (arith, right.1.known, clauses)

pub push_premises-requires : goal.push_premises-requires
push_premises-requires c =
    let right = numbered_right c.args.problem.now c.problem.inside.symbols c.problem.inside.files c.problem.inside.clauses c.problem.inside.forms c.as_slice.result.now c.args.form c.index-as_slice-form.result
    c.problem.view_is c.problem.invariant.input.each c.problem.invariant.formed c.as_slice.ensures c.requires.above c.requires.within c.index-as_slice-form.is in
    subst (λ (lits : List PatLit). All (IsSpelled c.problem.inside.symbols) lits) (sym c.as_slice-3.ensures)
    (all_spelled c.problem.inside.symbols c.index-as_slice-form.result.variables c.index-as_slice-form.result.premises right.1.premises)

pub push_conclusions-requires : goal.push_conclusions-requires
push_conclusions-requires c =
    let right = numbered_right c.args.problem.now c.problem.inside.symbols c.problem.inside.files c.problem.inside.clauses c.problem.inside.forms c.as_slice.result.now c.args.form c.index-as_slice-form.result
    c.problem.view_is c.problem.invariant.input.each c.problem.invariant.formed c.as_slice.ensures c.requires.above c.requires.within c.index-as_slice-form.is in
    subst (λ (lits : List PatLit). All (IsSpelled c.problem.inside.symbols) lits) (sym c.as_slice-4.ensures)
    (all_spelled c.problem.inside.symbols c.index-as_slice-form.result.variables c.index-as_slice-form.result.conclusions right.1.conclusions)

pub returns : goal.returns
returns c =
    let right = numbered_right c.args.problem.now c.problem.inside.symbols c.problem.inside.files c.problem.inside.clauses c.problem.inside.forms c.as_slice.result.now c.args.form c.index-as_slice-form.result
    c.problem.view_is c.problem.invariant.input.each c.problem.invariant.formed c.as_slice.ensures c.requires.above c.requires.within c.index-as_slice-form.is in
    let arrow = c.index-as_slice-form.result in
    let clause = c.index-as_slice-arrow.result in
    let spell = spelled_pattern_lit c.problem.inside.symbols in
    let form_is : arrow ≡ get_or c.problem.inside.forms (c.args.form - 1) arrow = c.index-as_slice-form.is ∙ ap (λ (forms : List Form). get_or forms (c.args.form - 1) arrow) c.as_slice.ensures in
    let clause_is : clause ≡ get_or c.problem.inside.clauses arrow.clause clause = c.index-as_slice-arrow.is ∙ ap (λ (cs : List Clause). get_or cs arrow.clause clause) c.as_slice-2.ensures in
    let third = c.in_ok-push_premises.ensures ∙ ap (λ (lits : List PatLit). c.push_head.new.into.items ++ premises_part (map spell lits)) c.as_slice-3.ensures in
    let fifth = c.in_ok-push_conclusions.ensures ∙ ap (λ (lits : List PatLit). c.extend_from_slice.new.self.items ++ conclusions_part (map spell lits)) c.as_slice-4.ensures in
    let text_is : c.new.result ≡ form_line c.problem.inside.symbols clause.name c.args.form arrow =
    c.new.ensures
    ∙ four_added c.new-bytes.result.items (line_head c.args.form (spelled_name clause.name.kind clause.name.text)) (premises_part (map spell arrow.premises)) (codes "->") (conclusions_part (map spell arrow.conclusions))
    c.push_head.new.into.items c.push_premises.new.into.items c.extend_from_slice.new.self.items c.push_conclusions.new.into.items
    c.new-bytes.ensures.items c.in_ok-push_head.ensures third c.in_ok-extend_from_slice.ensures.items fifth in
    subst (λ (problem : ProblemData). line_of problem c.args.form ≡ Some c.new.result) c.problem.view_is
    (line_at c.problem.inside.symbols c.problem.inside.files c.problem.inside.clauses c.problem.inside.forms c.args.form arrow clause c.new.result c.requires.above right.0 form_is right.1.known clause_is text_is)
