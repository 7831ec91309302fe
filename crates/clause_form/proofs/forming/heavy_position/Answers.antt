use Rattle.std.proofs.Common.{◌+◌, take, drop, sym, ◌∙◌, arith}
use Rattle.std.proofs.lemmas.List.{length-take}
use Rattle.clause_form.proofs.Splits.{split_at}
use Rattle.clause_form.proofs.forming.heavy_position.Goals as goal

pub returns-then-not-is_light_literal : goal.returns-then-not-is_light_literal
returns-then-not-is_light_literal c = record {
  before = take c.loop-at.at c.args.literals.now;
  literal = c.index-literals-at.result;
  after = drop (c.loop-at.at + 1) c.args.literals.now;
  literals_are = split_at c.args.literals.now c.loop-at.at c.index-literals-at.result c.loop-at-test.true c.index-literals-at.is;
  position_is = omega (arith, length-take c.loop-at.at c.args.literals.now);
  light = c.loop-at.invariant;
  heavy = sym c.is_light_literal.ensures ∙ c.if-not-is_light_literal.true;
}
