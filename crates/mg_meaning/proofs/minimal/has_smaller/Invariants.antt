use Rattle.std.proofs.Common.{All, take}
use Rattle.mg_meaning.specs.Parts.{IsSmaller}
use Rattle.mg_meaning.proofs.minimal.has_smaller.Given as goal

abbrev pub invariant-loop-part : goal.invariant-loop-part
invariant-loop-part l = All (λ part. ¬ IsSmaller l.problem l.set part) (take l.part-index l.parts)
