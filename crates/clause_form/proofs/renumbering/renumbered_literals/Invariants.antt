use Rattle.std.proofs.Common.{◌≡◌, take, map}
use Rattle.clause_form.specs.Renumbering.{literal_renumbered}
use Rattle.clause_form.proofs.renumbering.renumbered_literals.Given as goal

abbrev pub invariant-loop-literal : goal.invariant-loop-literal
invariant-loop-literal l = l.copied.items ≡ map (literal_renumbered l.numbers) (take l.literal-index l.literals)
