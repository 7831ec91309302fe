use Rattle.std.proofs.Common.{◌+◌, [], ◌∷◌}
use Rattle.mg_word.specs.Forms.{others_from, chosen_from}
use Rattle.clause_form.proofs.SideLaws.{others_from-next, chosen_from-next, grown}
use Rattle.clause_form.proofs.sides.further_form_of.Goals as goal

pub loop-at-preserved : goal.loop-at-preserved
loop-at-preserved c = record {
  premises_are = grown (others_from 1 c.args.chosen.now) (λ x. others_from (c.loop-at.at + 1) c.args.chosen.now (x ∷ [])) c.as_slice-literals.result.now c.loop-at.at c.index-literals-at.result c.loop-at.premises.items c.push_further.new.premises.items
      (others_from-next c.args.chosen.now c.as_slice-literals.result.now c.loop-at.at c.index-literals-at.result c.loop-at-test.true) c.index-literals-at.is c.loop-at.invariant.premises_are c.in_ok-push_further.ensures.premises;
  conclusions_are = grown (chosen_from 1 c.args.chosen.now) (λ x. chosen_from (c.loop-at.at + 1) c.args.chosen.now (x ∷ [])) c.as_slice-literals.result.now c.loop-at.at c.index-literals-at.result c.loop-at.conclusions.items c.push_further.new.conclusions.items
      (chosen_from-next c.args.chosen.now c.as_slice-literals.result.now c.loop-at.at c.index-literals-at.result c.loop-at-test.true) c.index-literals-at.is c.loop-at.invariant.conclusions_are c.in_ok-push_further.ensures.conclusions;
}
