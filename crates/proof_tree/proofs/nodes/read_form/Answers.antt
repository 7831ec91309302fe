use Rattle.std.proofs.Common.{◌≡◌, true, length, ap, ◌∙◌, subst}
use Rattle.std.specs.List.{list_all}
use Rattle.mg_word.specs.Facts.{is_symbol}
use Rattle.term_text.specs.Lists.{IsListRead}
use Rattle.proof_tree.proofs.NodeLines.{no_parts, no_terms, form_found}
use Rattle.proof_tree.proofs.nodes.read_form.Goals as goal

pub returns-in_default : goal.returns-in_default
returns-in_default c =
    let named : list_all is_symbol c.args.problem.now.symbols ≡ true = subst (λ p. list_all is_symbol p.symbols ≡ true) c.problem.view_is c.problem.invariant.input.named in
    no_parts c.args.problem.now named c.args.text.now c.in_default.ensures

pub returns-in_default-2 : goal.returns-in_default-2
returns-in_default-2 c =
    let named : list_all is_symbol c.args.problem.now.symbols ≡ true = subst (λ p. list_all is_symbol p.symbols ≡ true) c.problem.view_is c.problem.invariant.input.named in
    no_terms c.args.problem.now named c.args.text.now c.in-Some.number c.in-Some.list.now c.in-Some.ensures (rw c.in_default-2.is at c.in_ok-terms.ensures)

pub returns : goal.returns
returns c =
    let named : list_all is_symbol c.args.problem.now.symbols ≡ true = subst (λ p. list_all is_symbol p.symbols ≡ true) c.problem.view_is c.problem.invariant.input.named in
    let read = rw c.in-Some-2.is at c.in_ok-terms.ensures in
    let forms : length c.as_slice-forms.result.now ≡ length c.args.problem.now.forms = ap length c.as_slice-forms.ensures ∙ ap (λ p. length p.forms) c.problem.view_is in
    form_found c.args.problem.now named c.args.text.now c.in-Some.number c.in-Some.list.now c.in-Some.ensures c.in-Some-2.terms.words c.in-Some-2.terms.has_unknown c.in-Some-2.terms.has_heavy (subst (λ p. IsListRead p.symbols c.in-Some.list.now c.in-Some-2.terms.words c.in-Some-2.terms.has_unknown c.in-Some-2.terms.has_heavy) c.problem.view_is read) c.line_of.result
    (rw forms at c.line_of.ensures)
