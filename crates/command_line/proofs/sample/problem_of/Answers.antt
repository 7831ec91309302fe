use Rattle.std.proofs.Common.{arith, inl, inr, subst}
use Rattle.mg_word.specs.Facts.{IsProblem}
use Rattle.command_line.proofs.sample.problem_of.Goals as goal

pub unreachable-requires : goal.unreachable-requires
unreachable-requires c = elim (c.in-Err-Range.ensures.range.0 c.in-Err-Range.field-0-is) [
  | inl none ↦ omega (arith, none, c.requires.0)
  | inr many ↦ omega (arith, many, c.requires.1)
]

pub returns-in-Ok-forms_of : goal.returns-in-Ok-forms_of
returns-in-Ok-forms_of c = λ workers budget told. record { input = c.in-Ok.input; is = c.in-Ok.ensures.answer; formed = c.in-Ok-forms_of.ensures.answer; sound = subst IsProblem c.problem.view_is c.problem.invariant }
