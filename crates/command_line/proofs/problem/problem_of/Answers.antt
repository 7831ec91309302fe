use Rattle.std.proofs.Common.{subst}
use Rattle.mg_word.specs.Facts.{IsProblem}
use Rattle.command_line.proofs.problem.problem_of.Goals as goal

pub returns-in-Ok-forms_of-clause-formed : goal.returns-in-Ok-forms_of-clause-formed
returns-in-Ok-forms_of-clause-formed g c = record { input = c.in-Ok.input; is = c.in-Ok.ensures.read; formed = c.in-Ok-forms_of.ensures.answer; sound = subst IsProblem c.problem.view_is c.problem.invariant }
