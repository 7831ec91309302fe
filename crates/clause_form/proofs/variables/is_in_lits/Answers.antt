use Rattle.std.proofs.Common.{sym, ◌∙◌, ap}
use Rattle.mg_word.specs.Forms.{is_among, pattern_variables}
use Rattle.mg_word.specs.declared.lit.PatLit.{PatLit}
use Rattle.clause_form.proofs.Among.{among_at}
use Rattle.clause_form.proofs.variables.is_in_lits.Goals as goal

pub returns-then-is_in_items : goal.returns-then-is_in_items
returns-then-is_in_items c =
    sym (among_at (λ lit. pattern_variables lit.pattern) c.args.lits.now c.loop-lit.lit-index c.args.variable c.lit-item.result c.loop-lit-test.true
    (ap (λ (lit : PatLit). is_among (pattern_variables lit.pattern) c.args.variable) (sym c.lit-item.is)
    ∙ ap (λ items. is_among (pattern_variables items) c.args.variable) (sym c.as_slice.ensures) ∙ sym c.is_in_items.ensures ∙ c.if-is_in_items.true))
