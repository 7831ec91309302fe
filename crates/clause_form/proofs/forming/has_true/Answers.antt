use Rattle.std.proofs.Common.{sym, ◌∙◌, ◌∷◌, [], ap}
use Rattle.mg_word.specs.Forms.{is_always_true}
use Rattle.clause_form.proofs.SideLaws.{always_true_at, none_true_next}
use Rattle.clause_form.proofs.forming.has_true.Goals as goal

pub returns-then-is_true : goal.returns-then-is_true
returns-then-is_true c = sym (always_true_at c.args.literals.now c.loop-literal.literal-index c.literal-item.result c.loop-literal-test.true (ap (λ x. is_always_true (x ∷ [])) (sym c.literal-item.is) ∙ sym c.is_true.ensures ∙ c.if-is_true.true))

pub loop-literal-preserved : goal.loop-literal-preserved
loop-literal-preserved c = none_true_next c.args.literals.now c.loop-literal.literal-index c.literal-item.result c.loop-literal-test.true c.literal-item.is c.loop-literal.invariant (sym c.is_true.ensures ∙ c.if-is_true.false)
