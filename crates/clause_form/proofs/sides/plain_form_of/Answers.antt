use Rattle.std.proofs.Common.{[], ◌∷◌}
use Rattle.mg_word.specs.Forms.{premises_of, conclusions_of}
use Rattle.clause_form.proofs.SideLaws.{premises_of-next, conclusions_of-next, grown}
use Rattle.clause_form.proofs.sides.plain_form_of.Goals as goal

pub loop-literal-preserved : goal.loop-literal-preserved
loop-literal-preserved c = record {
  premises_are = grown (premises_of) (λ x. premises_of (x ∷ [])) c.as_slice-literals.result.now c.loop-literal.literal-index c.literal-item.result c.loop-literal.premises.items c.push_plain.new.premises.items
      (premises_of-next c.as_slice-literals.result.now c.loop-literal.literal-index c.literal-item.result c.loop-literal-test.true) c.literal-item.is c.loop-literal.invariant.premises_are c.in_ok-push_plain.ensures.premises;
  conclusions_are = grown (conclusions_of) (λ x. conclusions_of (x ∷ [])) c.as_slice-literals.result.now c.loop-literal.literal-index c.literal-item.result c.loop-literal.conclusions.items c.push_plain.new.conclusions.items
      (conclusions_of-next c.as_slice-literals.result.now c.loop-literal.literal-index c.literal-item.result c.loop-literal-test.true) c.literal-item.is c.loop-literal.invariant.conclusions_are c.in_ok-push_plain.ensures.conclusions;
}
