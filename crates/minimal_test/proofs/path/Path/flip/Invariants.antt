use Rattle.std.proofs.Common.{◌<◌, List, All, length}
use Rattle.minimal_test.specs.declared.rule.Rule.{Rule}
use Rattle.minimal_test.specs.declared.side.Side.{Side}
use Rattle.minimal_test.specs.declared.path.Step.{Step}
use Rattle.minimal_test.specs.Paths.{IsDead, Leads}
use Rattle.minimal_test.proofs.PathSteps.{IsBack}
use Rattle.minimal_test.proofs.path.Path.flip.Given as goal

abbrev pub invariant-loop-step : goal.invariant-loop-step
invariant-loop-step l = record {
  within : All (λ (step : Step). step.place < length l.self.sides.items) l.self.trail.items;
  back : (rules : List Rule) (start : List Side) → Leads rules start l.initial.self.trail.items l.initial.self.sides.items → IsDead rules l.initial.self.sides.items → IsBack rules start l.initial.self.trail.items l.self.trail.items l.self.sides.items;
}

abbrev pub decreases-loop-step : goal.decreases-loop-step
decreases-loop-step l = length l.self.trail.items
