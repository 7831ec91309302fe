use Rattle.std.proofs.Common.{◌≡◌, ◌-◌, ◌<◌, ℕ, List, All, length, map, sym, ap, ap₂, subst, ◌∙◌}
use Rattle.mg_word.specs.Facts.{ProblemData}
use Rattle.mg_word.specs.declared.form.Form.{Form}
use Rattle.term_store.specs.Terms.{Term, word_at}
use Rattle.minimal_test.proofs.HeldRules.{values_within, numbered_within, full_ruled}
use Rattle.minimal_test.proofs.full_rules.full_rule.Goals as goal

pub words_at-requires : goal.words_at-requires
words_at-requires c =
    subst (λ (numbers : List ℕ). All (λ number. number < length c.terms.result.now) numbers) (sym c.as_slice.ensures)
    (subst (λ (terms : List Term). All (λ number. number < length terms) c.args.full.now.values.items) (sym c.terms.ensures)
    (values_within c.args.stacks.now.problem.symbols c.args.stacks.now.terms c.args.full.now.values.items c.requires.over))

pub bounds-forms-full : goal.bounds-forms-full
bounds-forms-full c =
    let forms : c.as_slice-forms.result.now ≡ c.args.stacks.now.problem.forms = c.as_slice-forms.ensures ∙ ap (λ (problem : ProblemData). problem.forms) (c.behind-problem.view_is ∙ (c.deref.ensures ∙ c.problem.ensures)) in
    subst (λ (list : List Form). c.args.full.now.form - 1 < length list) (sym forms) (numbered_within c.args.stacks.now.problem.forms c.args.full.now.form c.requires.form c.requires.is).1

pub returns : goal.returns
returns c =
    let forms : c.as_slice-forms.result.now ≡ c.args.stacks.now.problem.forms = c.as_slice-forms.ensures ∙ ap (λ (problem : ProblemData). problem.forms) (c.behind-problem.view_is ∙ (c.deref.ensures ∙ c.problem.ensures)) in
    full_ruled c.args.stacks.now c.args.set.now c.args.full.now c.as_slice-forms.result.now c.index-forms-full.result c.in_ok-subst.subst c.rule_under.result c.requires forms c.index-forms-full.is
    (c.in_ok-subst.ensures ∙ ap₂ (λ (terms : List Term) (numbers : List ℕ). map (word_at terms) numbers) c.terms.ensures c.as_slice.ensures) c.rule_under.ensures
